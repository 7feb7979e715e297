-- The operators of terms: SMT-LIB 2.6, theories Core, FixedSizeBitVectors and ArraysEx, with words as indices of arrays.
use Rattle.std.specs.Prelude.{ℕ, ◌+◌, ◌-◌, ◌*◌, ◌/◌, ◌%◌, ◌^◌, ◌==◌, nat_lt, nat_le, bit_and, bit_or, bit_xor, Bool, true, false, not, ◌&&◌, ◌||◌, if◌then◌else◌, List, [], ◌∷◌, codes, Option, Some, None}
use Rattle.std.specs.Str.{bytes_eq}
use Rattle.smt_terms.specs.declared.sort.Sort.{Sort}
use Rattle.smt_terms.specs.declared.sort.Sort.TheVariants as sort

-- what a term stands for: a truth; a bit-vector, as its width and the number below 2 to that power whose bits it has; or
-- an array, as the width of its elements and the element at each index
pub data Value : Type 0 where
  Truth : (b : Bool) → Value
  Bits : (w n : ℕ) → Value
  Array : (w : ℕ) (at : ℕ → ℕ) → Value

-- the value of what has no sort
abbrev pub unsorted : Value
unsorted = Truth false

-- ---- sorts of operators: what they are of the sorts of the operands, which may have none

abbrev pub Rule : Type 0
Rule = List (Option Sort) → Option Sort

-- bit-vectors have 1 to 128 bits
abbrev pub is_width : ℕ → Bool
is_width w = nat_le 1 w && nat_le w 128

abbrev pub vector_sort : ℕ → Option Sort
vector_sort w = if is_width w then Some (sort.Bits w) else None

abbrev pub truth : ℕ → Option Sort
truth w = Some sort.Bool

abbrev pub same_sort : Sort → Sort → Bool
same_sort sort.Bool sort.Bool = true
same_sort (sort.Bits w) (sort.Bits v) = w == v
same_sort (sort.Array w) (sort.Array v) = w == v
same_sort _ _ = false

abbrev pub truth_rule : Rule
truth_rule (Some sort.Bool ∷ []) = Some sort.Bool
truth_rule _ = None

abbrev pub truths_rule : Rule
truths_rule (Some sort.Bool ∷ Some sort.Bool ∷ []) = Some sort.Bool
truths_rule _ = None

abbrev pub choice_rule : Rule
choice_rule (Some sort.Bool ∷ Some s ∷ Some r ∷ []) = if same_sort s r then Some s else None
choice_rule _ = None

-- one bit-vector
abbrev pub vector_rule : (ℕ → Option Sort) → Rule
vector_rule of (Some (sort.Bits w) ∷ []) = of w
vector_rule of _ = None

-- two bit-vectors of one width
abbrev pub vectors_rule : (ℕ → Option Sort) → Rule
vectors_rule of (Some (sort.Bits w) ∷ Some (sort.Bits v) ∷ []) = if w == v then of w else None
vectors_rule of _ = None

-- two truths, or two bit-vectors of one width
abbrev pub equal_rule : Rule
equal_rule (Some sort.Bool ∷ Some sort.Bool ∷ []) = Some sort.Bool
equal_rule of = vectors_rule truth of

abbrev pub concat_rule : Rule
concat_rule (Some (sort.Bits w) ∷ Some (sort.Bits v) ∷ []) = vector_sort (w + v)
concat_rule _ = None

abbrev pub select_rule : Rule
select_rule (Some (sort.Array w) ∷ Some (sort.Bits v) ∷ []) = if v == 64 then Some (sort.Bits w) else None
select_rule _ = None

abbrev pub store_rule : Rule
store_rule (Some (sort.Array w) ∷ Some (sort.Bits v) ∷ Some (sort.Bits u) ∷ []) = if v == 64 && u == w then Some (sort.Array w) else None
store_rule _ = None

-- ---- values of operators

-- the highest bit of n, of w bits, is 1
abbrev pub is_negative : ℕ → ℕ → Bool
is_negative w n = nat_le (2 ^ (w - 1)) n

-- the shift to the right that brings in the highest bit
abbrev pub shifted_right : ℕ → ℕ → ℕ → ℕ
shifted_right w a b = if is_negative w a then 2 ^ w - 1 - (2 ^ w - 1 - a) / 2 ^ b else a / 2 ^ b

-- less in two's complement
abbrev pub less_signed : ℕ → ℕ → ℕ → Bool
less_signed w a b = if is_negative w a then not (is_negative w b) || nat_lt a b else not (is_negative w b) && nat_lt a b

-- k more bits, each the highest bit
abbrev pub extended_by : ℕ → ℕ → ℕ → ℕ
extended_by k w a = if is_negative w a then a + (2 ^ (w + k) - 2 ^ w) else a

abbrev pub of_truth : (Bool → Value) → List Value → Value
of_truth f (Truth a ∷ []) = f a
of_truth f _ = unsorted

abbrev pub of_truths : (Bool → Bool → Value) → List Value → Value
of_truths f (Truth a ∷ Truth b ∷ []) = f a b
of_truths f _ = unsorted

abbrev pub of_bits : (ℕ → ℕ → Value) → List Value → Value
of_bits f (Bits w a ∷ []) = f w a
of_bits f _ = unsorted

abbrev pub of_two : (ℕ → ℕ → ℕ → Value) → List Value → Value
of_two f (Bits w a ∷ Bits v b ∷ []) = f w a b
of_two f _ = unsorted

abbrev pub choose : List Value → Value
choose (Truth c ∷ x ∷ y ∷ []) = if c then x else y
choose _ = unsorted

abbrev pub same : List Value → Value
same (Truth a ∷ Truth b ∷ []) = Truth (if a then b else not b)
same (Bits w a ∷ Bits v b ∷ []) = Truth (a == b)
same _ = unsorted

-- the first operand's bits are the higher ones
abbrev pub concatenated : List Value → Value
concatenated (Bits w a ∷ Bits v b ∷ []) = Bits (w + v) (a * 2 ^ v + b)
concatenated _ = unsorted

abbrev pub select_at : List Value → Value
select_at (Array w at ∷ Bits v i ∷ []) = Bits w (at i)
select_at _ = unsorted

abbrev pub store_at : List Value → Value
store_at (Array w at ∷ Bits v i ∷ Bits u x ∷ []) = Array w (λ k. if k == i then x else at k)
store_at _ = unsorted

-- ---- what stands at the head of a term, after its parenthesis: a binding, a literal, an operator or a function

pub data Head : Type 0 where
  LetHead : Head
  LiteralHead : Head
  Operator : (rule : Rule) (value : List Value → Value) → Head
  Function : (name : List ℕ) → Head
  NoHead : Head

-- the operators, a row each: the sort and the value
abbrev pub operators : List (List ℕ × Head)
operators =
    (codes "let", LetHead)
    ∷ (codes "_", LiteralHead)
    ∷ (codes "ite", Operator choice_rule choose)
    ∷ (codes "and", Operator truths_rule (of_truths (λ a b. Truth (a && b))))
    ∷ (codes "not", Operator truth_rule (of_truth (λ a. Truth (not a))))
    ∷ (codes "=", Operator equal_rule same)
    ∷ (codes "bvadd", Operator (vectors_rule vector_sort) (of_two (λ w a b. Bits w ((a + b) % 2 ^ w))))
    ∷ (codes "bvsub", Operator (vectors_rule vector_sort) (of_two (λ w a b. Bits w ((a + (2 ^ w - b)) % 2 ^ w))))
    ∷ (codes "bvneg", Operator (vector_rule vector_sort) (of_bits (λ w a. Bits w ((2 ^ w - a) % 2 ^ w))))
    ∷ (codes "bvmul", Operator (vectors_rule vector_sort) (of_two (λ w a b. Bits w (a * b % 2 ^ w))))
    ∷ (codes "bvudiv", Operator (vectors_rule vector_sort) (of_two (λ w a b. Bits w (if b == 0 then 2 ^ w - 1 else a / b))))
    ∷ (codes "bvurem", Operator (vectors_rule vector_sort) (of_two (λ w a b. Bits w (if b == 0 then a else a % b))))
    ∷ (codes "bvand", Operator (vectors_rule vector_sort) (of_two (λ w a b. Bits w (bit_and a b))))
    ∷ (codes "bvor", Operator (vectors_rule vector_sort) (of_two (λ w a b. Bits w (bit_or a b))))
    ∷ (codes "bvxor", Operator (vectors_rule vector_sort) (of_two (λ w a b. Bits w (bit_xor a b))))
    ∷ (codes "bvshl", Operator (vectors_rule vector_sort) (of_two (λ w a b. Bits w (a * 2 ^ b % 2 ^ w))))
    ∷ (codes "bvlshr", Operator (vectors_rule vector_sort) (of_two (λ w a b. Bits w (a / 2 ^ b))))
    ∷ (codes "bvashr", Operator (vectors_rule vector_sort) (of_two (λ w a b. Bits w (shifted_right w a b))))
    ∷ (codes "bvult", Operator (vectors_rule truth) (of_two (λ w a b. Truth (nat_lt a b))))
    ∷ (codes "bvslt", Operator (vectors_rule truth) (of_two (λ w a b. Truth (less_signed w a b))))
    ∷ (codes "concat", Operator concat_rule concatenated)
    ∷ (codes "select", Operator select_rule select_at)
    ∷ (codes "store", Operator store_rule store_at)
    ∷ []

-- the operators with one numeral
abbrev pub with_numeral : ℕ → List (List ℕ × Head)
with_numeral k =
    (codes "sign_extend", Operator (vector_rule (λ w. vector_sort (w + k))) (of_bits (λ w a. Bits (w + k) (extended_by k w a))))
    ∷ (codes "zero_extend", Operator (vector_rule (λ w. vector_sort (w + k))) (of_bits (λ w a. Bits (w + k) a)))
    ∷ []

-- the operator with two: bits i to j, j the lower one
abbrev pub with_numerals : ℕ → ℕ → List (List ℕ × Head)
with_numerals i j =
    (codes "extract", Operator (vector_rule (λ w. if nat_lt i w && nat_le j i then vector_sort (i + 1 - j) else None)) (of_bits (λ w a. Bits (i + 1 - j) (a / 2 ^ j % 2 ^ (i + 1 - j)))))
    ∷ []

abbrev pub found : List ℕ → List (List ℕ × Head) → Head → Head
found name [] other = other
found name (row ∷ rows) other = if bytes_eq name row.0 then row.1 else found name rows other
