-- The rows of the table are apart, so the order in which they stand doesn't matter.
use Rattle.std.proofs.Common.{◌≡◌, ℕ, zero, suc, ◌^◌, ◌<◌, Bool, true, false, cond, ◌&&◌, ◌↔◌, Option, Some, None, List, [], ◌∷◌, length, get_or, refl, sym, ap, ◌∙◌, arith}
use Rattle.std.proofs.lemmas.Bool.{false≢true}
use Rattle.std.specs.Option.{option_and_then}
use Rattle.std.specs.List.{list_all, Any}
use Rattle.rv_decode.specs.declared.instruction.Instr.{Instr}
use Rattle.rv_decode.specs.Encodes.{encoded}
use Rattle.rvc.specs.Expands.{Test, holds, fits, Row, table, Expands, compressed, expanded}
use Rattle.rvc.proofs.RowLemmas.{compressed_by, compressed_by-table, AllHold, any_refuted, any_refuted-fits, and_true}

all_hold : (h : ℕ) (ts : List Test) → fits h ts ≡ true → AllHold h ts
all_hold h [] e = tt
all_hold h (t ∷ ts) e = let both = and_true (holds h t) (fits h ts) e in (both.0, all_hold h ts both.1)

-- what one row asks refutes what another asks
abbrev apart : Row → Row → Bool
apart r s = any_refuted r.0 s.0

abbrev all_apart : List Row → Bool
all_apart [] = true
all_apart (r ∷ rs) = list_all (apart r) rs && all_apart rs

passes_at : {X : Type 0} (p : X → Bool) (xs : List X) (k : ℕ) (d : X) → list_all p xs ≡ true → k < length xs → p (get_or xs k d) ≡ true
passes_at p [] k d h l = absurd (omega arith)
passes_at p (x ∷ xs) zero d h l = (and_true (p x) (list_all p xs) h).0
passes_at p (x ∷ xs) (suc k) d h l = passes_at p xs k d (and_true (p x) (list_all p xs) h).1 (omega arith)

-- a row that a number meets gives its instruction, since no row before it is met
row_gives : (h : ℕ) (rs : List Row) (k : ℕ) (r : Row) → all_apart rs ≡ true → k < length rs → get_or rs k r ≡ r → fits h r.0 ≡ true → compressed_by rs h ≡ Some (r.1 h)
row_gives h [] k r apart_all l at met = absurd (omega arith)
row_gives h (q ∷ rs) zero r apart_all l at met =
    let here : fits h q.0 ≡ true = ap (λ (s : Row). fits h s.0) at ∙ met in
    (λ i. cond (here i) (Some (q.1 h)) (compressed_by rs h)) ∙ (λ i. Some ((at i).1 h))
row_gives h (q ∷ rs) (suc k) r apart_all l at met =
    let both = and_true (list_all (apart q) rs) (all_apart rs) apart_all in
    let here : apart q r ≡ true = ap (apart q) (sym at) ∙ passes_at (apart q) rs k r both.0 (omega arith) in
    skip (Some (q.1 h)) (compressed_by rs h) (fits h q.0) (λ e. sym (any_refuted-fits h q.0 r.0 (all_hold h q.0 e) here) ∙ met)
    ∙ row_gives h rs k r both.1 (omega arith) at met
  where
    skip : (x y : Option Instr) (t : Bool) → (t ≡ true → false ≡ true) → cond t x y ≡ y
    skip x y true e = absurd (false≢true (e refl))
    skip x y false e = refl

-- what is found is what some row gives that is met
pub row_of : (h : ℕ) (rs : List Row) (i : Instr) → compressed_by rs h ≡ Some i → Any (λ r. (fits h r.0 ≡ true) × (r.1 h ≡ i)) rs
row_of h [] i e = absurd (cc)
row_of h (q ∷ rs) i e = by_test (λ there. row_of h rs i there) (fits h q.0) refl e
  where
    by_test : (compressed_by rs h ≡ Some i → Any (λ r. (fits h r.0 ≡ true) × (r.1 h ≡ i)) rs) → (t : Bool) → fits h q.0 ≡ t → cond t (Some (q.1 h)) (compressed_by rs h) ≡ Some i
        → Any (λ r. (fits h r.0 ≡ true) × (r.1 h ≡ i)) (q ∷ rs)
    by_test more true met here = (0, q, omega arith, refl, (met, cc))
    by_test more false met there = let later = more there in (suc later.0, later.1, omega (arith, later.2), later.3, later.4)

middle : (o : Option Instr) (w : ℕ) → option_and_then encoded o ≡ Some w → (i : Instr) × (o ≡ Some i) × (encoded i ≡ Some w)
middle None w e = absurd (cc)
middle (Some i) w e = (i, refl, e)

-- a number expands to at most one word, that of the first row that it meets
pub expanded-Expands : (h w : ℕ) → h < 2 ^ 16 → (expanded h ≡ Some w) ↔ Expands h w
unfolding Expands expanded
expanded-Expands h w low = (
  λ e.
      let m = middle (compressed h) w e in
      let r = row_of h table m.0 (compressed_by-table h ∙ m.1) in
      (low, (r.0, r.1, r.2, r.3, (r.4.0, ap encoded r.4.1 ∙ m.2))),
  λ (_, (k, r, l, at, (met, word))).
      ap (option_and_then encoded) (sym (compressed_by-table h) ∙ row_gives h table k r refl l at met) ∙ word,
)
