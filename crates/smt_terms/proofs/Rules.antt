-- Where an operator's or a function's rule gives a sort, each operand has one.
use Rattle.std.proofs.Common.{◌≡◌, ℕ, true, List, [], ◌∷◌, Option, Some, None, refl, ap}
use Rattle.std.proofs.lemmas.Bool.{eqb-true}
use Rattle.smt_terms.specs.declared.sort.Sort.{Sort}
use Rattle.smt_terms.specs.declared.sort.Sort.TheVariants as sort
use Rattle.smt_terms.specs.Operators.{truth, vector_sort, truth_rule, truths_rule, choice_rule, vector_rule, vectors_rule, equal_rule, concat_rule, select_rule, store_rule, same_sort}
use Rattle.smt_terms.specs.Sorts.{sorts_fit}
use Rattle.smt_terms.specs.declared.operator.Binary.{Binary}
use Rattle.smt_terms.specs.declared.operator.Binary.TheVariants as binary
use Rattle.smt_terms.specs.declared.operator.Operator.{Operator}
use Rattle.smt_terms.specs.declared.operator.Operator.TheVariants as operator
use Rattle.smt_terms.specs.inner.Operators.{row_of}
use Rattle.smt_terms.specs.inner.Applied.{head_rule}
use Rattle.smt_terms.specs.inner.Heads.{AreSorts}
use Rattle.smt_terms.proofs.Vectors.{both}

pub truth-sorts : (os : List (Option Sort)) (s : Sort) → truth_rule os ≡ Some s → AreSorts os
truth-sorts [] s h = absurd (cc)
truth-sorts (None ∷ os) s h = absurd (cc)
truth-sorts (Some (sort.Bits w) ∷ os) s h = absurd (cc)
truth-sorts (Some (sort.Array w) ∷ os) s h = absurd (cc)
truth-sorts (Some sort.Bool ∷ []) s h = (sort.Bool ∷ [], refl)
truth-sorts (Some sort.Bool ∷ o ∷ os) s h = absurd (cc)

truths-sorts : (os : List (Option Sort)) (s : Sort) → truths_rule os ≡ Some s → AreSorts os
truths-sorts [] s h = absurd (cc)
truths-sorts (None ∷ os) s h = absurd (cc)
truths-sorts (Some (sort.Bits w) ∷ os) s h = absurd (cc)
truths-sorts (Some (sort.Array w) ∷ os) s h = absurd (cc)
truths-sorts (Some sort.Bool ∷ []) s h = absurd (cc)
truths-sorts (Some sort.Bool ∷ None ∷ os) s h = absurd (cc)
truths-sorts (Some sort.Bool ∷ Some (sort.Bits v) ∷ os) s h = absurd (cc)
truths-sorts (Some sort.Bool ∷ Some (sort.Array v) ∷ os) s h = absurd (cc)
truths-sorts (Some sort.Bool ∷ Some sort.Bool ∷ []) s h = (sort.Bool ∷ sort.Bool ∷ [], refl)
truths-sorts (Some sort.Bool ∷ Some sort.Bool ∷ o ∷ os) s h = absurd (cc)

choice-sorts : (os : List (Option Sort)) (s : Sort) → choice_rule os ≡ Some s → AreSorts os
choice-sorts [] s h = absurd (cc)
choice-sorts (None ∷ os) s h = absurd (cc)
choice-sorts (Some (sort.Bits w) ∷ os) s h = absurd (cc)
choice-sorts (Some (sort.Array w) ∷ os) s h = absurd (cc)
choice-sorts (Some sort.Bool ∷ []) s h = absurd (cc)
choice-sorts (Some sort.Bool ∷ None ∷ os) s h = absurd (cc)
choice-sorts (Some sort.Bool ∷ Some y ∷ []) s h = absurd (cc)
choice-sorts (Some sort.Bool ∷ Some y ∷ None ∷ os) s h = absurd (cc)
choice-sorts (Some sort.Bool ∷ Some y ∷ Some z ∷ []) s h = (sort.Bool ∷ y ∷ z ∷ [], refl)
choice-sorts (Some sort.Bool ∷ Some y ∷ Some z ∷ o ∷ os) s h = absurd (cc)

pub vector-sorts : (of : ℕ → Option Sort) (os : List (Option Sort)) (s : Sort) → vector_rule of os ≡ Some s → AreSorts os
vector-sorts of [] s h = absurd (cc)
vector-sorts of (None ∷ os) s h = absurd (cc)
vector-sorts of (Some sort.Bool ∷ os) s h = absurd (cc)
vector-sorts of (Some (sort.Array w) ∷ os) s h = absurd (cc)
vector-sorts of (Some (sort.Bits w) ∷ []) s h = ((sort.Bits w) ∷ [], refl)
vector-sorts of (Some (sort.Bits w) ∷ o ∷ os) s h = absurd (cc)

vectors-sorts : (of : ℕ → Option Sort) (os : List (Option Sort)) (s : Sort) → vectors_rule of os ≡ Some s → AreSorts os
vectors-sorts of [] s h = absurd (cc)
vectors-sorts of (None ∷ os) s h = absurd (cc)
vectors-sorts of (Some sort.Bool ∷ os) s h = absurd (cc)
vectors-sorts of (Some (sort.Array w) ∷ os) s h = absurd (cc)
vectors-sorts of (Some (sort.Bits w) ∷ []) s h = absurd (cc)
vectors-sorts of (Some (sort.Bits w) ∷ None ∷ os) s h = absurd (cc)
vectors-sorts of (Some (sort.Bits w) ∷ Some sort.Bool ∷ os) s h = absurd (cc)
vectors-sorts of (Some (sort.Bits w) ∷ Some (sort.Array v) ∷ os) s h = absurd (cc)
vectors-sorts of (Some (sort.Bits w) ∷ Some (sort.Bits v) ∷ []) s h = ((sort.Bits w) ∷ (sort.Bits v) ∷ [], refl)
vectors-sorts of (Some (sort.Bits w) ∷ Some (sort.Bits v) ∷ o ∷ os) s h = absurd (cc)

concat-sorts : (os : List (Option Sort)) (s : Sort) → concat_rule os ≡ Some s → AreSorts os
concat-sorts [] s h = absurd (cc)
concat-sorts (None ∷ os) s h = absurd (cc)
concat-sorts (Some sort.Bool ∷ os) s h = absurd (cc)
concat-sorts (Some (sort.Array w) ∷ os) s h = absurd (cc)
concat-sorts (Some (sort.Bits w) ∷ []) s h = absurd (cc)
concat-sorts (Some (sort.Bits w) ∷ None ∷ os) s h = absurd (cc)
concat-sorts (Some (sort.Bits w) ∷ Some sort.Bool ∷ os) s h = absurd (cc)
concat-sorts (Some (sort.Bits w) ∷ Some (sort.Array v) ∷ os) s h = absurd (cc)
concat-sorts (Some (sort.Bits w) ∷ Some (sort.Bits v) ∷ []) s h = ((sort.Bits w) ∷ (sort.Bits v) ∷ [], refl)
concat-sorts (Some (sort.Bits w) ∷ Some (sort.Bits v) ∷ o ∷ os) s h = absurd (cc)

select-sorts : (os : List (Option Sort)) (s : Sort) → select_rule os ≡ Some s → AreSorts os
select-sorts [] s h = absurd (cc)
select-sorts (None ∷ os) s h = absurd (cc)
select-sorts (Some sort.Bool ∷ os) s h = absurd (cc)
select-sorts (Some (sort.Bits w) ∷ os) s h = absurd (cc)
select-sorts (Some (sort.Array w) ∷ []) s h = absurd (cc)
select-sorts (Some (sort.Array w) ∷ None ∷ os) s h = absurd (cc)
select-sorts (Some (sort.Array w) ∷ Some sort.Bool ∷ os) s h = absurd (cc)
select-sorts (Some (sort.Array w) ∷ Some (sort.Array v) ∷ os) s h = absurd (cc)
select-sorts (Some (sort.Array w) ∷ Some (sort.Bits v) ∷ []) s h = ((sort.Array w) ∷ (sort.Bits v) ∷ [], refl)
select-sorts (Some (sort.Array w) ∷ Some (sort.Bits v) ∷ o ∷ os) s h = absurd (cc)

store-sorts : (os : List (Option Sort)) (s : Sort) → store_rule os ≡ Some s → AreSorts os
store-sorts [] s h = absurd (cc)
store-sorts (None ∷ os) s h = absurd (cc)
store-sorts (Some sort.Bool ∷ os) s h = absurd (cc)
store-sorts (Some (sort.Bits w) ∷ os) s h = absurd (cc)
store-sorts (Some (sort.Array w) ∷ []) s h = absurd (cc)
store-sorts (Some (sort.Array w) ∷ None ∷ os) s h = absurd (cc)
store-sorts (Some (sort.Array w) ∷ Some sort.Bool ∷ os) s h = absurd (cc)
store-sorts (Some (sort.Array w) ∷ Some (sort.Array v) ∷ os) s h = absurd (cc)
store-sorts (Some (sort.Array w) ∷ Some (sort.Bits v) ∷ []) s h = absurd (cc)
store-sorts (Some (sort.Array w) ∷ Some (sort.Bits v) ∷ None ∷ os) s h = absurd (cc)
store-sorts (Some (sort.Array w) ∷ Some (sort.Bits v) ∷ Some sort.Bool ∷ os) s h = absurd (cc)
store-sorts (Some (sort.Array w) ∷ Some (sort.Bits v) ∷ Some (sort.Array u) ∷ os) s h = absurd (cc)
store-sorts (Some (sort.Array w) ∷ Some (sort.Bits v) ∷ Some (sort.Bits u) ∷ []) s h = ((sort.Array w) ∷ (sort.Bits v) ∷ (sort.Bits u) ∷ [], refl)
store-sorts (Some (sort.Array w) ∷ Some (sort.Bits v) ∷ Some (sort.Bits u) ∷ o ∷ os) s h = absurd (cc)

equal-sorts : (os : List (Option Sort)) (s : Sort) → equal_rule os ≡ Some s → AreSorts os
equal-sorts [] s h = absurd (cc)
equal-sorts (None ∷ os) s h = absurd (cc)
equal-sorts (Some (sort.Bits w) ∷ os) s h = vectors-sorts truth (Some (sort.Bits w) ∷ os) s h
equal-sorts (Some (sort.Array w) ∷ os) s h = absurd (cc)
equal-sorts (Some sort.Bool ∷ []) s h = absurd (cc)
equal-sorts (Some sort.Bool ∷ None ∷ os) s h = absurd (cc)
equal-sorts (Some sort.Bool ∷ Some (sort.Bits v) ∷ os) s h = absurd (cc)
equal-sorts (Some sort.Bool ∷ Some (sort.Array v) ∷ os) s h = absurd (cc)
equal-sorts (Some sort.Bool ∷ Some sort.Bool ∷ []) s h = (sort.Bool ∷ sort.Bool ∷ [], refl)
equal-sorts (Some sort.Bool ∷ Some sort.Bool ∷ o ∷ os) s h = absurd (cc)

binary-sorts : (op : Binary) (os : List (Option Sort)) (s : Sort) → head_rule (row_of (operator.Binary op)) os ≡ Some s → AreSorts os
binary-sorts binary.Add os s h = vectors-sorts vector_sort os s h
binary-sorts binary.Sub os s h = vectors-sorts vector_sort os s h
binary-sorts binary.Mul os s h = vectors-sorts vector_sort os s h
binary-sorts binary.Udiv os s h = vectors-sorts vector_sort os s h
binary-sorts binary.Urem os s h = vectors-sorts vector_sort os s h
binary-sorts binary.And os s h = vectors-sorts vector_sort os s h
binary-sorts binary.Or os s h = vectors-sorts vector_sort os s h
binary-sorts binary.Xor os s h = vectors-sorts vector_sort os s h
binary-sorts binary.Shl os s h = vectors-sorts vector_sort os s h
binary-sorts binary.Lshr os s h = vectors-sorts vector_sort os s h
binary-sorts binary.Ashr os s h = vectors-sorts vector_sort os s h

pub operand-sorts : (op : Operator) (os : List (Option Sort)) (s : Sort) → head_rule (row_of op) os ≡ Some s → AreSorts os
operand-sorts operator.Ite os s h = choice-sorts os s h
operand-sorts operator.And os s h = truths-sorts os s h
operand-sorts operator.Not os s h = truth-sorts os s h
operand-sorts operator.Equal os s h = equal-sorts os s h
operand-sorts operator.Neg os s h = vector-sorts vector_sort os s h
operand-sorts (operator.Binary op) os s h = binary-sorts op os s h
operand-sorts operator.Ult os s h = vectors-sorts truth os s h
operand-sorts operator.Slt os s h = vectors-sorts truth os s h
operand-sorts operator.Concat os s h = concat-sorts os s h
operand-sorts operator.Select os s h = select-sorts os s h
operand-sorts operator.Store os s h = store-sorts os s h
operand-sorts (operator.SignExtend k) os s h = vector-sorts _ os s h
operand-sorts (operator.ZeroExtend k) os s h = vector-sorts _ os s h
operand-sorts (operator.Extract i j) os s h = vector-sorts _ os s h

-- ---- functions

pub fit-sorts : (ps : List (List ℕ × Sort)) (os : List (Option Sort)) → sorts_fit ps os ≡ true → AreSorts os
fit-sorts [] [] h = ([], refl)
fit-sorts [] (o ∷ os) h = absurd (cc)
fit-sorts (p ∷ ps) [] h = absurd (cc)
fit-sorts (p ∷ ps) (None ∷ os) h = absurd (cc)
fit-sorts (p ∷ ps) (Some s ∷ os) h = let rest = fit-sorts ps os (both (same_sort s p.1) (sorts_fit ps os) h).1 in (s ∷ rest.0, λ j. Some s ∷ rest.1 j)

pub same-sort : (s r : Sort) → same_sort s r ≡ true → s ≡ r
same-sort sort.Bool sort.Bool h = refl
same-sort sort.Bool (sort.Bits v) h = absurd (cc)
same-sort sort.Bool (sort.Array v) h = absurd (cc)
same-sort (sort.Bits w) sort.Bool h = absurd (cc)
same-sort (sort.Bits w) (sort.Bits v) h = ap sort.Bits (eqb-true w v h)
same-sort (sort.Bits w) (sort.Array v) h = absurd (cc)
same-sort (sort.Array w) sort.Bool h = absurd (cc)
same-sort (sort.Array w) (sort.Bits v) h = absurd (cc)
same-sort (sort.Array w) (sort.Array v) h = ap sort.Array (eqb-true w v h)
