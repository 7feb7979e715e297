-- The bytes of ranges, each below 256.
use Rattle.std.proofs.Common.{◌≡◌, ℕ, zero, suc, ◌+◌, ◌-◌, ◌<◌, ◌≤◌, Bool, true, false, cond, Option, Some, None, List, [], ◌∷◌, length, get_or, refl, sym, ◌∙◌, ap, arith, ⊎_elim}
use Rattle.std.specs.Prelude.{slice_get, nat_le}
use Rattle.std.specs.List.{AllByRecursion}
use Rattle.std.specs.Option.{option_or}
use Rattle.std.proofs.lemmas.Bool.{cases_lt}
use Rattle.std.proofs.lemmas.Option.{none-some, slice_get-get_or}
use Rattle.rv_words.proofs.PieceLemmas.{bytes_before, bytes_past, bytes_within}
use Rattle.rv_words.specs.Bytes.{AreBytes, over}
use Rattle.rv_words.specs.Ranges.{AreRanges, AreRangesFrom, range_bytes}
use Rattle.rv_words.specs.declared.range.Range.{Range}
use Rattle.proof_text.specs.inner.OwnCode.{IsOwnCode}

abbrev AreSmall : List Range → Type 0
AreSmall rs = AllByRecursion (λ r. AllByRecursion (λ b. b < 256) r.bytes) rs

at-place : (bs : List ℕ) (k b : ℕ) → AllByRecursion (λ b. b < 256) bs → slice_get bs k ≡ Some b → b < 256
at-place [] k b all e = absurd (cc)
at-place (x ∷ bs) zero b all e = let same : x ≡ b = cc in let low : x < 256 = all.0 in omega (arith, same, low)
at-place (x ∷ bs) (suc k) b all e = at-place bs k b all.1 e

-- of bytes at addresses
pub small_bytes : (rs : List Range) → AreSmall rs → AreBytes (range_bytes rs)
small_bytes [] all a b e = absurd (cc)
small_bytes (r ∷ rs) all a b e = go (nat_le r.at a) (small_bytes rs all.1 a b) e
  where
    later : (o : Option ℕ) → (o ≡ Some b → b < 256) → (range_bytes rs a ≡ Some b → b < 256) → option_or o (range_bytes rs a) ≡ Some b → b < 256
    later None here rest e = rest e
    later (Some x) here rest e = here e

    go : (t : Bool) → (range_bytes rs a ≡ Some b → b < 256) → option_or (cond t (slice_get r.bytes (a - r.at)) None) (range_bytes rs a) ≡ Some b → b < 256
    go true rest e = later (slice_get r.bytes (a - r.at)) (λ s. at-place r.bytes (a - r.at) b all.0 s) rest e
    go false rest e = rest e

pub small_over : (x y : ℕ → Option ℕ) → AreBytes x → AreBytes y → AreBytes (over x y)
small_over x y p q a b e = go (x a) (λ s. p a b s) e
  where
    go : (o : Option ℕ) → (o ≡ Some b → b < 256) → option_or o (y a) ≡ Some b → b < 256
    go None f e = q a b e
    go (Some c) f e = f e

below : (rs : List Range) (least a : ℕ) → AreRangesFrom least rs → a < least → range_bytes rs a ≡ None
below [] least a are lt = refl
below (r ∷ rs) least a are lt =
    let above : least ≤ r.at = are.0 in
    let later = below rs (r.at + length r.bytes + 1) a are.3 (omega arith) in
    λ i. option_or (bytes_before r.at r.bytes a (omega arith) i) (later i)

each-small : (bs : List ℕ) → ((k : ℕ) → k < length bs → get_or bs k 0 < 256) → AllByRecursion (λ b. b < 256) bs
each-small [] f = tt
each-small (b ∷ bs) f = (f 0 (omega arith), each-small bs (λ k lt. f (suc k) (omega (arith, lt))))

small-from : (least : ℕ) (rs : List Range) → AreRangesFrom least rs → AreBytes (range_bytes rs) → AreSmall rs
small-from least [] are fit = tt
small-from least (r ∷ rs) are fit = (
  each-small r.bytes (λ k lt. fit (r.at + k) (get_or r.bytes k 0) (first k lt)),
  small-from (r.at + length r.bytes + 1) rs are.3 (λ a b e. fit a b (behind a b e)),
)
  where
    first : (k : ℕ) → k < length r.bytes → range_bytes (r ∷ rs) (r.at + k) ≡ Some (get_or r.bytes k 0)
    first k lt =
        let place : r.at + k - r.at ≡ k = omega arith in
        let here = bytes_within r.at r.bytes (r.at + k) (omega arith) ∙ ap (slice_get r.bytes) place ∙ slice_get-get_or r.bytes k 0 lt in
        λ i. option_or (here i) (range_bytes rs (r.at + k))

    behind : (a b : ℕ) → range_bytes rs a ≡ Some b → range_bytes (r ∷ rs) a ≡ Some b
    behind a b e = ⊎_elim
        (λ (lt : a < r.at + length r.bytes + 1). absurd (none-some b (sym (below rs (r.at + length r.bytes + 1) a are.3 lt) ∙ e)))
        (λ (le : r.at + length r.bytes + 1 ≤ a). (λ i. option_or (bytes_past r.at r.bytes a (omega (arith, le)) i) (range_bytes rs a)) ∙ e)
        (cases_lt a (r.at + length r.bytes + 1))

-- the ranges of the bytes of two codes
pub joined_own : (a b c : List Range) → IsOwnCode a → IsOwnCode b → AreRanges c → range_bytes c ≡ over (range_bytes a) (range_bytes b) → IsOwnCode c
joined_own a b c p q are e = (are, small-from 0 c are (λ x y s. small_over (range_bytes a) (range_bytes b) (small_bytes a p.1) (small_bytes b q.1) x y (sym (λ i. e i x) ∙ s)))
