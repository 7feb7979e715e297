-- What stands at heads of terms, by their names and numerals.
use Rattle.std.proofs.Common.{◌≡◌, ℕ, ◌+◌, ◌-◌, ◌<◌, ◌≤◌, min, Bool, true, false, cond, List, [], ◌∷◌, length, map, codes, Option, Some, None, option_map, refl, sym, ap, subst, ◌∙◌, ⊎_elim, arith}
use Rattle.std.specs.Prelude.{nat_lt, nat_le, ◌&&◌}
use Rattle.std.specs.Str.{bytes_eq}
use Rattle.std.proofs.lemmas.Bool.{cases_lt, lt-leb, le-ltb}
use Rattle.std.proofs.lemmas.List.{length-map}
use Rattle.std.proofs.Math.Nat.{min-eq_left}
use Rattle.smt_terms.specs.declared.sort.Sort.{Sort}
use Rattle.smt_terms.specs.declared.sort.Sort.TheVariants as sort
use Rattle.smt_terms.specs.Expression.{Expr, Atom, Node, exprs}
use Rattle.smt_terms.specs.Views.{expr}
use Rattle.smt_terms.specs.declared.tree.Tree.{Tree}
use Rattle.smt_terms.specs.Operators.{Head, LetHead, LiteralHead, Function, NoHead, vector_sort, vector_rule, operators, found}
use Rattle.smt_terms.specs.Operators.{Operator as OperatorHead}
use Rattle.smt_terms.specs.Meaning.{term_head, one_numeral, two_numerals}
use Rattle.smt_terms.specs.declared.datum.Datum.{Datum}
use Rattle.smt_terms.specs.declared.datum.Datum.TheVariants as datum
use Rattle.smt_terms.specs.declared.vector.Vector.{Vector}
use Rattle.smt_terms.specs.declared.operator.Binary.{Binary}
use Rattle.smt_terms.specs.declared.operator.Binary.TheVariants as binary
use Rattle.smt_terms.specs.declared.operator.Operator.{Operator}
use Rattle.smt_terms.specs.declared.operator.Operator.TheVariants as operator
use Rattle.smt_terms.specs.inner.Datum.{sorted}
use Rattle.smt_terms.specs.inner.Operators.{operator_name, operator_named, plain_operators, row_of}
use Rattle.smt_terms.specs.inner.Applied.{head_rule, head_value}
use Rattle.smt_terms.specs.inner.Heads.{IsOperator, IsHead}
use Rattle.smt_terms.specs.declared.head.Head.{Head as Found}
use Rattle.smt_terms.proofs.ReadNumerals.{told-small}
use Rattle.smt_terms.proofs.Vectors.{width-most}
use Rattle.smt_terms.proofs.Rules.{operand-sorts}

is-binary : (op : Binary) → row_of (operator.Binary op) ≡ OperatorHead (head_rule (row_of (operator.Binary op))) (head_value (row_of (operator.Binary op)))
is-binary binary.Add = refl
is-binary binary.Sub = refl
is-binary binary.Mul = refl
is-binary binary.Udiv = refl
is-binary binary.Urem = refl
is-binary binary.And = refl
is-binary binary.Or = refl
is-binary binary.Xor = refl
is-binary binary.Shl = refl
is-binary binary.Lshr = refl
is-binary binary.Ashr = refl

is-operator : (op : Operator) → row_of op ≡ OperatorHead (head_rule (row_of op)) (head_value (row_of op))
is-operator operator.Ite = refl
is-operator operator.And = refl
is-operator operator.Not = refl
is-operator operator.Equal = refl
is-operator operator.Neg = refl
is-operator (operator.Binary op) = is-binary op
is-operator operator.Ult = refl
is-operator operator.Slt = refl
is-operator operator.Concat = refl
is-operator operator.Select = refl
is-operator operator.Store = refl
is-operator (operator.SignExtend k) = refl
is-operator (operator.ZeroExtend k) = refl
is-operator (operator.Extract i j) = refl

plain-operator : (op : Operator) → IsOperator op (row_of op)
plain-operator op = record { operator = is-operator op; operands = operand-sorts op; same = λ ds s h. refl }

-- ---- names

abbrev rows-of : List Operator → List (List ℕ × Head)
rows-of ops = map (λ (op : Operator). (operator_name op, row_of op)) ops

abbrev picked : Option Operator → Head → Head
picked (Some op) other = row_of op
picked None other = other

pick : (b : Bool) (op : Operator) (o : Option Operator) (other rest : Head) → rest ≡ picked o other → cond b (row_of op) rest ≡ picked (cond b (Some op) o) other
pick true op o other rest e = refl
pick false op o other rest e = e

found-named : (ops : List Operator) (name : List ℕ) (other : Head) → found name (rows-of ops) other ≡ picked (operator_named name ops) other
found-named [] name other = refl
found-named (op ∷ ops) name other = pick (bytes_eq name (operator_name op)) op (operator_named name ops) other (found name (rows-of ops) other) (found-named ops name other)

table : operators ≡ (codes "let", LetHead) ∷ (codes "_", LiteralHead) ∷ rows-of plain_operators
table = refl

pub head_let : (name : List ℕ) → bytes_eq name (codes "let") ≡ true → term_head (Atom name) ≡ LetHead
head_let name h = λ j. cond (h j) LetHead (cond (bytes_eq name (codes "_")) LiteralHead (found name (rows-of plain_operators) (Function name)))

pub head_literal : (name : List ℕ) → bytes_eq name (codes "let") ≡ false → bytes_eq name (codes "_") ≡ true → term_head (Atom name) ≡ LiteralHead
head_literal name h k = λ j. cond (h j) LetHead (cond (k j) LiteralHead (found name (rows-of plain_operators) (Function name)))

head-other : (name : List ℕ) → bytes_eq name (codes "let") ≡ false → bytes_eq name (codes "_") ≡ false → term_head (Atom name) ≡ picked (operator_named name plain_operators) (Function name)
head-other name h k = (λ j. cond (h j) LetHead (cond (k j) LiteralHead (found name (rows-of plain_operators) (Function name)))) ∙ found-named plain_operators name (Function name)

pub head_operator : (name : List ℕ) (op : Operator) → bytes_eq name (codes "let") ≡ false → bytes_eq name (codes "_") ≡ false → operator_named name plain_operators ≡ Some op → IsOperator op (term_head (Atom name))
head_operator name op h k e = subst (IsOperator op) (sym (head-other name h k ∙ ap (λ (o : Option Operator). picked o (Function name)) e)) (plain-operator op)

pub head_function : (name : List ℕ) → bytes_eq name (codes "let") ≡ false → bytes_eq name (codes "_") ≡ false → operator_named name plain_operators ≡ None → term_head (Atom name) ≡ Function name
head_function name h k e = head-other name h k ∙ ap (λ (o : Option Operator). picked o (Function name)) e

-- ---- numerals

no-vector : (of : ℕ → Option Sort) → ((v : Vector) → of v.width ≡ None) → (ds : List Datum) (s : Sort) → vector_rule of (map sorted ds) ≡ Some s → ⊥
no-vector of none [] s h = absurd (cc)
no-vector of none (datum.Truth b ∷ ds) s h = absurd (cc)
no-vector of none (datum.Array a ∷ ds) s h = absurd (cc)
no-vector of none (datum.Bits v ∷ d ∷ ds) s h = absurd (cc)
no-vector of none (datum.Bits v ∷ []) s h = let e = none v in absurd (cc)

and-false : (a b : Bool) → b ≡ false → (a && b) ≡ false
and-false true b h = h
and-false false b h = refl

too-wide : (w : ℕ) → 128 < w → vector_sort w ≡ None
too-wide w h = λ j. cond (and-false (nat_le 1 w) (nat_le w 128) (lt-leb w 128 h) j) (Some (sort.Bits w)) None

small : (n k : ℕ) → k ≡ min n 129 → n ≤ 128 → k ≡ n
small n k e le = e ∙ min-eq_left (omega arith)

extension : (op : ℕ → Operator) (of : ℕ → ℕ → Option Sort) (n k : ℕ) → ((m : ℕ) → row_of (op m) ≡ OperatorHead (vector_rule (of m)) (head_value (row_of (op m)))) → ((m w : ℕ) → 128 < m → of m w ≡ None) → k ≡ min n 129
    → IsOperator (op k) (row_of (op n))
extension op of n k row none e = record {
  operator = is-operator (op n);
  operands = operand-sorts (op n);
  same = λ ds s h. ⊎_elim
      (λ lt. absurd (no-vector (of n) (λ v. none n v.width lt) ds s (sym (ap (λ (head : Head). head_rule head (map sorted ds)) (row n)) ∙ h)))
      (λ le. ap (λ (m : ℕ). row_of (op m)) (sym (small n k e le)))
      (cases_lt 128 n);
}

past : (w m : ℕ) → 128 < m → vector_sort (w + m) ≡ None
past w m h = too-wide (w + m) (omega arith)

pub head_sign : (name : List ℕ) (n k : ℕ) → bytes_eq name (codes "sign_extend") ≡ true → k ≡ min n 129 → IsOperator (operator.SignExtend k) (one_numeral name (Some n))
head_sign name n k h e =
    let named : one_numeral name (Some n) ≡ row_of (operator.SignExtend n) = λ j. cond (h j) (row_of (operator.SignExtend n)) (cond (bytes_eq name (codes "zero_extend")) (row_of (operator.ZeroExtend n)) NoHead) in
    subst (IsOperator (operator.SignExtend k)) (sym named) (extension (λ m. operator.SignExtend m) (λ m w. vector_sort (w + m)) n k (λ m. refl) (λ m w lt. past w m lt) e)

pub head_zero : (name : List ℕ) (n k : ℕ) → bytes_eq name (codes "sign_extend") ≡ false → bytes_eq name (codes "zero_extend") ≡ true → k ≡ min n 129 → IsOperator (operator.ZeroExtend k) (one_numeral name (Some n))
head_zero name n k h g e =
    let named : one_numeral name (Some n) ≡ row_of (operator.ZeroExtend n) = λ j. cond (h j) (row_of (operator.SignExtend n)) (cond (g j) (row_of (operator.ZeroExtend n)) NoHead) in
    subst (IsOperator (operator.ZeroExtend k)) (sym named) (extension (λ m. operator.ZeroExtend m) (λ m w. vector_sort (w + m)) n k (λ m. refl) (λ m w lt. past w m lt) e)

pub head_no_extension : (name : List ℕ) (n : ℕ) → bytes_eq name (codes "sign_extend") ≡ false → bytes_eq name (codes "zero_extend") ≡ false → one_numeral name (Some n) ≡ NoHead
head_no_extension name n h g = λ j. cond (h j) (row_of (operator.SignExtend n)) (cond (g j) (row_of (operator.ZeroExtend n)) NoHead)

-- an extraction from 129 on, or of bits that rise, is none
abbrev of-extract : ℕ → ℕ → ℕ → Option Sort
of-extract i j w = cond (nat_lt i w && nat_le j i) (vector_sort (i + 1 - j)) None

no-extract : (i j : ℕ) (v : Vector) → 128 < i → of-extract i j v.width ≡ None
no-extract i j v h = let le : v.width ≤ 128 = width-most v.width v.wide in let le2 : v.width ≤ i = omega arith in λ k. cond (le-ltb i v.width le2 k && nat_le j i) (vector_sort (i + 1 - j)) None

rising : (i j : ℕ) (v : Vector) → i < j → of-extract i j v.width ≡ None
rising i j v h = λ k. cond (and-false (nat_lt i v.width) (nat_le j i) (lt-leb j i h) k) (vector_sort (i + 1 - j)) None

extract-same : (i j n m : ℕ) → n ≡ min i 129 → m ≡ min j 129 → (ds : List Datum) (s : Sort) → head_rule (row_of (operator.Extract i j)) (map sorted ds) ≡ Some s → row_of (operator.Extract i j) ≡ row_of (operator.Extract n m)
extract-same i j n m e f ds s h = ⊎_elim
    (λ lt. absurd (no-vector (of-extract i j) (λ v. no-extract i j v lt) ds s h))
    (λ le. ⊎_elim
    (λ lt. absurd (no-vector (of-extract i j) (λ v. rising i j v (omega arith)) ds s h))
    (λ ge k. row_of (operator.Extract (sym (small i n e le) k) (sym (small j m f ge) k)))
    (cases_lt 128 j))
    (cases_lt 128 i)

head_extract : (name : List ℕ) (o p : Option ℕ) (i j n m : ℕ) → bytes_eq name (codes "extract") ≡ true → o ≡ Some i → p ≡ Some j → n ≡ min i 129 → m ≡ min j 129 → IsOperator (operator.Extract n m) (two_numerals name o p)
head_extract name o p i j n m h oi pj e f =
    let named : two_numerals name o p ≡ row_of (operator.Extract i j) = (λ k. two_numerals name (oi k) (pj k)) ∙ (λ k. cond (h k) (row_of (operator.Extract i j)) NoHead) in
    subst (IsOperator (operator.Extract n m)) (sym named) (record { operator = refl; operands = operand-sorts (operator.Extract i j); same = extract-same i j n m e f })

pub head_extracted : (name : List ℕ) (o p r q : Option ℕ) (n m : ℕ) → bytes_eq name (codes "extract") ≡ true → r ≡ option_map (λ (n : ℕ). min n 129) o → r ≡ Some n → q ≡ option_map (λ (n : ℕ). min n 129) p → q ≡ Some m → IsOperator (operator.Extract n m) (two_numerals name o p)
head_extracted name o p r q n m h e f g k = let i = told-small o r n e f in let j = told-small p q m g k in head_extract name o p i.0 j.0 n m h i.1 j.1 i.2 j.2

pub head_extended : (name : List ℕ) (o r : Option ℕ) (k : ℕ) (head : Found) → ((n : ℕ) → k ≡ min n 129 → IsHead head (one_numeral name (Some n))) → r ≡ option_map (λ (n : ℕ). min n 129) o → r ≡ Some k → IsHead head (one_numeral name o)
head_extended name o r k head h e f = let t = told-small o r k e f in subst (λ (p : Option ℕ). IsHead head (one_numeral name p)) (sym t.1) (h t.0 t.2)

-- ---- trees in parentheses

no-head : (es : List Expr) → (length es ≡ 3 → ⊥) → (length es ≡ 4 → ⊥) → term_head (Node (exprs es)) ≡ NoHead
no-head [] h g = refl
no-head (Node a ∷ es) h g = refl
no-head (Atom a ∷ []) h g = refl
no-head (Atom a ∷ Node b ∷ es) h g = refl
no-head (Atom a ∷ Atom b ∷ []) h g = refl
no-head (Atom a ∷ Atom b ∷ Node c ∷ es) h g = refl
no-head (Atom a ∷ Atom b ∷ Atom c ∷ []) h g = absurd (h refl)
no-head (Atom a ∷ Atom b ∷ Atom c ∷ Node d ∷ es) h g = refl
no-head (Atom a ∷ Atom b ∷ Atom c ∷ Atom d ∷ []) h g = absurd (g refl)
no-head (Atom a ∷ Atom b ∷ Atom c ∷ Atom d ∷ e ∷ es) h g = refl

pub head_nothing : (xs : List Tree) → (length xs ≡ 3 → ⊥) → (length xs ≡ 4 → ⊥) → term_head (Node (exprs (map expr xs))) ≡ NoHead
head_nothing xs h g = no-head (map expr xs) (λ e. h (sym (length-map xs expr) ∙ e)) (λ e. g (sym (length-map xs expr) ∙ e))
