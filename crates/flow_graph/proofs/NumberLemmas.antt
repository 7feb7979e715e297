-- Places of different numbers.
use Rattle.std.proofs.Common.{◌≡◌, ℕ, suc, ◌+◌, ◌<◌, ◌≢◌, ◌↔◌, List, [], ◌∷◌, inl, inr, length, get_or, Bool, cond, nat_eq, IfSome, position, sym, ◌∙◌, ap, subst, arith, Option, Some, None}
use Rattle.std.specs.List.{Contains, list_any, IsDistinct}
use Rattle.std.specs.List.Sorted.{IsSorted}
use Rattle.std.specs.Ordering.{nat_cmp}
use Rattle.std.proofs.lemmas.Bool.Decides.{eqb_tells, leb_tells}
use Rattle.std.proofs.lemmas.Bool.{cases_eq}
use Rattle.std.proofs.lemmas.Map.Views.{Contains-from_any, list_any-from_Contains, exact_unsigned_eq}
use Rattle.std.proofs.lemmas.Cmp.{nat_eq_equiv}
use Rattle.std.proofs.lemmas.List.Quantifiers.{position-Some}
use Rattle.std.proofs.lemmas.List.Sorted.{IsNonDecreasingBy-from_sort}
use Rattle.flow_graph.specs.Graph.{IsRising, number}
use Rattle.flow_graph.proofs.Ways.{Contains-cons, node_at}
use Rattle.flow_graph.proofs.VisitedLemmas.{differ_from_distinct}

pub members_iff : (xs ys : List ℕ) (x : ℕ) → list_any (nat_eq x) ys ≡ list_any (nat_eq x) xs → Contains xs x ↔ Contains ys x
members_iff xs ys x e = (
  λ c. Contains-from_any exact_unsigned_eq x ys (e ∙ list_any-from_Contains nat_eq_equiv x xs c),
  λ c. Contains-from_any exact_unsigned_eq x xs (sym e ∙ list_any-from_Contains nat_eq_equiv x ys c),
)

-- sorted different numbers rise
pub rising_from_sorted : (xs : List ℕ) → IsSorted nat_cmp xs → IsDistinct nat_eq xs → IsRising xs
rising_from_sorted xs s d = record {
  below = λ j k l h.
      let le = IsNonDecreasingBy-from_sort (λ (x : ℕ). x) xs s j k 0 (omega arith) h in
      let ne = differ_from_distinct xs d j k l h in
      omega (arith, le, ne);
}

-- a number that is there stands at its place
pub number_within : (xs : List ℕ) (x : ℕ) → Contains xs x → (number xs x < length xs) × (get_or xs (number xs x) 0 ≡ x)
number_within [] x c = absurd (omega (arith, c.1))
number_within (y ∷ ys) x c = elim (eqb_tells x y) [
  | inl e ↦ subst (λ (b : Bool). (cond b 0 (number ys x + 1) < suc (length ys)) × (get_or (y ∷ ys) (cond b 0 (number ys x + 1)) 0 ≡ x)) (sym e.0) (omega arith, sym e.1)
  | inr n ↦
      let r = number_within ys x (elim (Contains-cons y ys x c) [ inl q ↦ absurd (n.1 (sym q)) | inr d ↦ d ]) in
      let m : number ys x + 1 ≡ suc (number ys x) = omega arith in
      subst (λ (b : Bool). (cond b 0 (number ys x + 1) < suc (length ys)) × (get_or (y ∷ ys) (cond b 0 (number ys x + 1)) 0 ≡ x)) (sym n.0)
      (omega (arith, r.0), ap (λ k. get_or (y ∷ ys) k 0) m ∙ r.1)
]

-- where numbers differ, a place is that of its number
pub number_at : (xs : List ℕ) → ((j k : ℕ) → j < k → k < length xs → get_or xs j 0 ≢ get_or xs k 0) → (i : ℕ) (x : ℕ) → i < length xs → get_or xs i 0 ≡ x → number xs x ≡ i
number_at xs differ i x l e =
    let r = number_within xs x (subst (λ (z : ℕ). Contains xs z) e (node_at xs i l)) in
    elim (cases_eq (number xs x) i) [
      | inl q ↦ q
      | inr n ↦ elim (leb_tells (number xs x) i) [
        | inl t ↦ absurd (differ (number xs x) i (omega (arith, t.1, n)) l (r.1 ∙ sym e))
        | inr t ↦ absurd (differ i (number xs x) t.1 r.0 (e ∙ sym r.1))
      ]
    ]

pub different_from_rising : (xs : List ℕ) → IsRising xs → (j k : ℕ) → j < k → k < length xs → get_or xs j 0 ≢ get_or xs k 0
different_from_rising xs r j k l h e = let lt = r.below j k l h in omega (arith, lt, e)

pub number_position : (xs : List ℕ) (x : ℕ) (r : Option ℕ) → IsDistinct nat_eq xs → r ≡ position (nat_eq x) xs → IfSome r (λ i. i ≡ number xs x)
number_position xs x None d e = tt
number_position xs x (Some i) d e =
    let p = position-Some (nat_eq x) xs i 0 (sym e) in
    sym (number_at xs (differ_from_distinct xs d) i x p.0 (sym (exact_unsigned_eq x (get_or xs i 0) p.1)))
