-- The rows of the table are apart, so the order in which they stand doesn't matter.
use Rattle.std.proofs.Common.{◌≡◌, ℕ, zero, suc, ◌<◌, Bool, true, false, cond, ◌&&◌, ◌↔◌, Option, Some, List, [], ◌∷◌, length, get_or, refl, sym, ap, ◌∙◌, arith}
use Rattle.std.proofs.lemmas.Bool.{false≢true}
use Rattle.std.specs.List.{list_all, Any}
use Rattle.rv_decode.specs.declared.instruction.Instr.{Instr}
use Rattle.rv_decode.specs.Decodes.{Decodes, fits, table, decoded}
use Rattle.rv_decode.proofs.RowLemmas.{FixedBits, bits_of, has, has-fits, Row, decoded_by, decoded_by-table, Fact, AreFacts, is, and_true, any_refuted, any_refuted-has}

abbrev facts_of : List FixedBits → List Fact
facts_of [] = []
facts_of (f ∷ fs) = is f ∷ facts_of fs

are_facts : (w : ℕ) (fs : List FixedBits) → list_all (has w) fs ≡ true → AreFacts w (facts_of fs)
are_facts w [] h = tt
are_facts w (f ∷ fs) h = let both = and_true (has w f) (list_all (has w) fs) h in (both.0, are_facts w fs both.1)

-- the rows ask for different values of the same bits
abbrev apart : Row → Row → Bool
apart r s = any_refuted (facts_of (bits_of r.0)) (bits_of s.0)

abbrev all_apart : List Row → Bool
all_apart [] = true
all_apart (r ∷ rs) = list_all (apart r) rs && all_apart rs

passes_at : {X : Type 0} (p : X → Bool) (xs : List X) (k : ℕ) (d : X) → list_all p xs ≡ true → k < length xs → p (get_or xs k d) ≡ true
passes_at p [] k d h l = absurd (omega arith)
passes_at p (x ∷ xs) zero d h l = (and_true (p x) (list_all p xs) h).0
passes_at p (x ∷ xs) (suc k) d h l = passes_at p xs k d (and_true (p x) (list_all p xs) h).1 (omega arith)

row_decodes : (w : ℕ) (rs : List Row) (k : ℕ) (r : Row) → all_apart rs ≡ true → k < length rs → get_or rs k r ≡ r → fits w r.0 ≡ true → decoded_by rs w ≡ Some (r.1 w)
row_decodes w [] k r apart_all l at h = absurd (omega arith)
row_decodes w (q ∷ rs) zero r apart_all l at h =
    let met : fits w q.0 ≡ true = ap (λ s. fits w s.0) at ∙ h in
    (λ i. cond (met i) (Some (q.1 w)) (decoded_by rs w)) ∙ (λ i. Some ((at i).1 w))
row_decodes w (q ∷ rs) (suc k) r apart_all l at h =
    let both = and_true (list_all (apart q) rs) (all_apart rs) apart_all in
    let here : apart q r ≡ true = ap (apart q) (sym at) ∙ passes_at (apart q) rs k r both.0 (omega arith) in
    let facts : fits w q.0 ≡ true → AreFacts w (facts_of (bits_of q.0)) = λ met. are_facts w (bits_of q.0) (has-fits w q.0 ∙ met) in
    skip (Some (q.1 w)) (decoded_by rs w) (fits w q.0) (λ met. sym (any_refuted-has (facts_of (bits_of q.0)) w (bits_of r.0) (facts met) here) ∙ has-fits w r.0 ∙ h)
    ∙ row_decodes w rs k r both.1 (omega arith) at h
  where
    skip : (x y : Option Instr) (t : Bool) → (t ≡ true → false ≡ true) → cond t x y ≡ y
    skip x y true e = absurd (false≢true (e refl))
    skip x y false e = refl

decoded_row : (w : ℕ) (rs : List Row) (i : Instr) → decoded_by rs w ≡ Some i → Any (λ r. (fits w r.0 ≡ true) × (r.1 w ≡ i)) rs
decoded_row w [] i e = absurd (cc)
decoded_row w (q ∷ rs) i e = by_test (λ there. decoded_row w rs i there) (fits w q.0) refl e
  where
    by_test : (decoded_by rs w ≡ Some i → Any (λ r. (fits w r.0 ≡ true) × (r.1 w ≡ i)) rs) → (t : Bool) → fits w q.0 ≡ t → cond t (Some (q.1 w)) (decoded_by rs w) ≡ Some i → Any (λ r. (fits w r.0 ≡ true) × (r.1 w ≡ i)) (q ∷ rs)
    by_test more true met here = (0, q, omega arith, refl, (met, cc))
    by_test more false met there = let later = more there in (suc later.0, later.1, omega (arith, later.2), later.3, later.4)

-- a word decodes to at most one instruction, which the first row gives that it meets
pub decoded-Decodes : (w : ℕ) (i : Instr) → (decoded w ≡ Some i) ↔ Decodes w i
unfolding Decodes
decoded-Decodes w i = (
  λ e. decoded_row w table i (decoded_by-table w ∙ e),
  λ (k, r, l, at, (met, gives)). sym (decoded_by-table w) ∙ row_decodes w table k r refl l at met ∙ ap Some gives,
)

pub decoded_decodes : (w : ℕ) (o : Option Instr) → o ≡ decoded w → (i : Instr) → (o ≡ Some i) ↔ Decodes w i
decoded_decodes w o e i = (λ h. (decoded-Decodes w i).0 (sym e ∙ h), λ d. e ∙ (decoded-Decodes w i).1 d)
