-- What the values of a definition's functions tell of an evaluation.
use Rattle.std.specs.Prelude.{◌≡◌, ℕ, suc, ◌<◌, List, [], ◌∷◌, ◌++◌, map, length, true, false}
use Rattle.std.specs.List.{Contains}
use Rattle.rv_words.specs.Bytes.{Bytes}
use Rattle.tailrec_lang.specs.Tree.{GroupTree}
use Rattle.tailrec_lang.specs.Eval.{Arguments, Outcome, Done, SideFalse, Turns, NoOutcome, eval}
use Rattle.smt_terms.specs.Operators.{Value, Bits, Truth}
use Rattle.smt_terms.specs.Meaning.{FunTree, applied, functions_after, no_names}
use Rattle.group_terms.specs.Range.{ArgumentsInRange}
use Rattle.smt_terms.specs.Memory.{IsMemoryOf}
use Rattle.smt_export.specs.declared.told.Told.{Told}
use Rattle.smt_export.specs.declared.told.Told.TheVariants.{Ok, ExitNumber, Pc, WordAt, MemAt, DomAt}
use Rattle.smt_export.specs.Told.{fun_name, params, told_sort, words_from}

-- for each memory two values
abbrev pub AreArrays : List Bytes → List Value → Type 0
AreArrays [] [] = Unit {0}
AreArrays (M ∷ Ms) (m ∷ d ∷ vs) = IsMemoryOf M m d × AreArrays Ms vs
AreArrays _ _ = ⊥

-- the values of a call's arguments
pub record AreArgumentValues (g : GroupTree) (x : Arguments) (vs : List Value) : Type 0 where
  pub arrays : List Value
  pub is : vs ≡ map (Bits 64) x.words ++ arrays
  pub mems : AreArrays x.mems arrays
  pub words_count : length x.words ≡ length g.regs
  pub mems_count : length x.mems ≡ g.mems
  pub range : ArgumentsInRange x

-- the memories from memory i on
abbrev pub AreMems : (Told → Value) → ℕ → List Bytes → Type 0
AreMems f i [] = Unit {0}
AreMems f i (m ∷ ms) = IsMemoryOf m (f (MemAt i)) (f (DomAt i)) × AreMems f (suc i) ms

-- Done exactly where `ok` is true, and then by that exit, with that program counter, those words, and those memories'
-- bytes where they are present. Where the turns are used, nothing is told; there is no other outcome.
abbrev pub TellsOutcome : GroupTree → Outcome → (Told → Value) → Type 0
TellsOutcome g (Done exit pc results left) f =
    (f Ok ≡ Truth true) × (f ExitNumber ≡ Bits 32 exit) × (f Pc ≡ Bits 64 pc) × (map f (words_from 0 (length g.regs)) ≡ map (Bits 64) results.words) × AreMems f 0 results.mems
TellsOutcome g (SideFalse def ordinal) f = f Ok ≡ Truth false
TellsOutcome g Turns f = Unit {0}
TellsOutcome g NoOutcome f = ⊥

-- the functions tell the outcome of every evaluation of definition d
abbrev pub TellsEval : GroupTree → ℕ → List FunTree → Type 0
TellsEval g d funs =
    (x : Arguments) (n : ℕ) (vs : List Value) → AreArgumentValues g x vs → TellsOutcome g (eval g d x n) (λ t. applied (functions_after no_names funs) (fun_name d t) vs)

-- what is told of a definition of the group
abbrev pub IsToldOf : GroupTree → Told → Type 0
IsToldOf g (WordAt i) = i < length g.regs
IsToldOf g (MemAt i) = i < g.mems
IsToldOf g (DomAt i) = i < g.mems
IsToldOf g _ = Unit {0}

-- the functions of definition d are among these: over the words `w0` upwards and the memories `mem0`, `dom0` upwards, and of
-- the sort of what they tell
pub record HasFuns (g : GroupTree) (funs : List FunTree) (d : ℕ) : Type 0 where
  pub there : (t : Told) → IsToldOf g t → (f : FunTree) × Contains funs f × (f.name ≡ fun_name d t) × (f.params ≡ params g) × (f.sort ≡ told_sort t)
