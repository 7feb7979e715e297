-- The value of an application of a script's function.
use Rattle.std.specs.Prelude.{◌≡◌, ℕ, ◌<◌, ◌^◌, List, [], ◌∷◌, Option, Some, None}
use Rattle.std.specs.FinMap.{get}
use Rattle.rv_words.specs.Limits.{AreBytesBelow}
use Rattle.smt_terms.specs.declared.sort.Sort.{Sort}
use Rattle.smt_terms.specs.declared.sort.Sort.TheVariants as sort
use Rattle.smt_terms.specs.Operators.{Value, Truth, Bits, Array, unsorted}
use Rattle.smt_terms.specs.Meaning.{Named, no_names, bind, FunTree, applied, functions_after}
use Rattle.smt_terms.specs.declared.smt.Smt.{Smt}
use Rattle.smt_terms.specs.declared.smt.Smt.TheVariants as smt
use Rattle.smt_terms.specs.Elements.{element}

-- it is of the sort
abbrev pub IsOfSort : Sort → Smt → Type 0
IsOfSort sort.Bool (smt.Bool b) = Unit {0}
IsOfSort (sort.Bits w) (smt.Bits v n) = (v ≡ w) × (n < 2 ^ w)
IsOfSort (sort.Array w) (smt.Bytes m) = AreBytesBelow (2 ^ w) (get m)
IsOfSort _ _ = ⊥

-- what it stands for at that sort
abbrev pub smt_value_at : Sort → Smt → Value
smt_value_at sort.Bool (smt.Bool b) = Truth b
smt_value_at (sort.Bits w) (smt.Bits v n) = Bits v n
smt_value_at (sort.Array w) (smt.Bytes m) = Array w (element m)
smt_value_at _ _ = unsorted

-- as many inputs as parameters, each of its parameter's sort
abbrev pub AreOfSorts : List (List ℕ × Sort) → List Smt → Type 0
AreOfSorts [] [] = Unit {0}
AreOfSorts (p ∷ ps) (x ∷ xs) = IsOfSort p.1 x × AreOfSorts ps xs
AreOfSorts _ _ = ⊥

abbrev pub values_at : List (List ℕ × Sort) → List Smt → List Value
values_at (p ∷ ps) (x ∷ xs) = smt_value_at p.1 x ∷ values_at ps xs
values_at _ _ = []

-- the functions by their names
abbrev pub funs_after : Named FunTree → List FunTree → Named FunTree
funs_after fs [] = fs
funs_after fs (f ∷ more) = funs_after (bind fs f.name f) more

-- the answer tells the function's value on these inputs; there is none where no function has the name, or the inputs
-- aren't of its parameters' sorts
abbrev pub TellsOf : Option FunTree → List FunTree → List ℕ → List Smt → Option Smt → Type 0
TellsOf None funs name inputs None = Unit {0}
TellsOf None funs name inputs (Some x) = ⊥
TellsOf (Some f) funs name inputs None = AreOfSorts f.params inputs → ⊥
TellsOf (Some f) funs name inputs (Some x) = AreOfSorts f.params inputs × IsOfSort f.sort x × (smt_value_at f.sort x ≡ applied (functions_after no_names funs) name (values_at f.params inputs))

abbrev pub TellsValue : List FunTree → List ℕ → List Smt → Option Smt → Type 0
TellsValue funs name inputs answer = TellsOf (funs_after no_names funs name) funs name inputs answer
