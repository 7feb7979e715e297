-- Where a search in code finds its byte.
use Rattle.std.proofs.Common.{◌≡◌, ℕ, zero, suc, ◌+◌, ◌<◌, ◌≤◌, Some, None, List, [], ◌∷◌, length, get_or, take, drop, refl, sym, ◌∙◌, ap, arith, subst}
use Rattle.std.specs.Prelude.{All}
use Rattle.std.specs.Option.{option_or}
use Rattle.std.proofs.lemmas.List.{take-append-drop, drop_more, drop_all}
use Rattle.std.proofs.lemmas.List.Elements.{All-head, All-tail}
use Rattle.rv_words.proofs.PieceLemmas.{bytes_before, bytes_past}
use Rattle.rv_words.specs.Bytes.{bytes_from, over}
use Rattle.rv_words.specs.declared.range.Range.{Range}
use Rattle.rv_words.specs.Ranges.{range_bytes}
use Rattle.sep_assert.specs.inner.Code.{AreSameAt}
use Rattle.sep_assert.proofs.JoinLemmas.{range_bytes-append}
use Rattle.sep_assert.specs.inner.Search.{EndsBy, RiseFrom}

-- ranges that end by an address have no byte there or later
past-none : (rs : List Range) (a q : ℕ) → All (EndsBy a) rs → a ≤ q → range_bytes rs q ≡ None
past-none [] a q all le = refl
past-none (r ∷ rs) a q all le =
    let here : r.at + length r.bytes ≤ a = All-head (EndsBy a) r rs all in
    let later = past-none rs a q (All-tail (EndsBy a) r rs all) le in
    (λ i. option_or (bytes_past r.at r.bytes q (omega arith) i) (later i))

-- rising ranges have no byte below
below-none : (rs : List Range) (least q : ℕ) → RiseFrom least rs → q < least → range_bytes rs q ≡ None
below-none [] least q rise lt = refl
below-none (r ∷ rs) least q rise lt =
    let above : least ≤ r.at = rise.0 in
    let later = below-none rs (r.at + length r.bytes) q rise.1 (omega arith) in
    (λ i. option_or (bytes_before r.at r.bytes q (omega arith) i) (later i))

rise-least : (least more : ℕ) (rs : List Range) → least ≤ more → RiseFrom more rs → RiseFrom least rs
rise-least least more [] le rise = tt
rise-least least more (r ∷ rs) le rise = (omega (arith, rise.0), rise.1)

rise-drop : (least k : ℕ) (rs : List Range) → RiseFrom least rs → RiseFrom least (drop k rs)
rise-drop least zero rs rise = rise
rise-drop least (suc k) [] rise = tt
rise-drop least (suc k) (r ∷ rs) rise = rise-least least (r.at + length r.bytes) (drop k rs) (omega (arith, rise.0)) (rise-drop (r.at + length r.bytes) k rs rise.1)

-- what stands behind ranges that end by an address has the byte there
pub byte-behind : (rs : List Range) (k a : ℕ) → All (EndsBy a) (take k rs) → range_bytes rs a ≡ range_bytes (drop k rs) a
byte-behind rs k a all =
    ap (λ l. range_bytes l a) (sym (take-append-drop k rs)) ∙ (λ i. range_bytes-append (take k rs) (drop k rs) i a)
    ∙ (λ i. option_or (past-none (take k rs) a a all (omega arith) i) (range_bytes (drop k rs) a))

module _ (rs : List Range) (k a : ℕ) (r : Range) (lt : k < length rs) (is : r ≡ get_or rs k r) (all : All (EndsBy a) (take k rs)) where
  from : drop k rs ≡ r ∷ drop (k + 1) rs
  from = drop_more rs k r lt ∙ (λ i. sym is i ∷ drop (k + 1) rs)

  at-range : range_bytes rs a ≡ option_or (bytes_from r.at r.bytes a) (range_bytes (drop (k + 1) rs) a)
  at-range = byte-behind rs k a all ∙ (λ i. range_bytes (from i) a)

  -- the range has it
  pub byte-here : (b : ℕ) → bytes_from r.at r.bytes a ≡ Some b → Some b ≡ range_bytes rs a
  byte-here b e = sym (at-range ∙ (λ i. option_or (e i) (range_bytes (drop (k + 1) rs) a)))

  -- it hasn't, and those behind it rise
  pub byte-nowhere : RiseFrom 0 rs → bytes_from r.at r.bytes a ≡ None → a < r.at + length r.bytes → None ≡ range_bytes rs a
  byte-nowhere rise e before =
      let rest = subst (RiseFrom 0) from (rise-drop 0 k rs rise) in
      sym (at-range ∙ (λ i. option_or (e i) (below-none (drop (k + 1) rs) (r.at + length r.bytes) a rest.1 before i)))

  -- it hasn't, so those behind it are asked
  pub byte-later : bytes_from r.at r.bytes a ≡ None → range_bytes (drop (k + 1) rs) a ≡ range_bytes rs a
  byte-later e = sym (at-range ∙ (λ i. option_or (e i) (range_bytes (drop (k + 1) rs) a)))

-- all of them end by it
pub byte-past : (rs : List Range) (k a : ℕ) → All (EndsBy a) (take k rs) → length rs ≤ k → None ≡ range_bytes rs a
byte-past rs k a all le = sym (byte-behind rs k a all ∙ (λ i. range_bytes (drop_all k rs le i) a))

-- the same of the ranges that the searches go over
pub same-in : (x y z a b c : List Range) (r : Range) → x ≡ a → y ≡ b → z ≡ c
    → AreSameAt (range_bytes x) (over (range_bytes y) (range_bytes z)) r → AreSameAt (range_bytes a) (over (range_bytes b) (range_bytes c)) r
same-in x y z a b c r first second third same k lt =
    (λ i. range_bytes (sym first i) (r.at + k)) ∙ same k lt ∙ (λ i. over (range_bytes (second i)) (range_bytes (third i)) (r.at + k))
