-- Two codes are compared range by range.
use Rattle.std.proofs.Common.{◌≡◌, ℕ, Bool, true, false, List, [], ◌∷◌, refl, sym, ap, ◌∙◌}
use Rattle.std.proofs.lemmas.Bool.{and_parts, and_from, eqb-true, eq-eqb}
use Rattle.std.proofs.lemmas.Slice.Eq.{bytes_eq-Decides}
use Rattle.std.specs.Prelude.{◌==◌, ◌&&◌, ◌↔◌}
use Rattle.std.specs.Str.{bytes_eq}
use Rattle.rv_words.specs.declared.range.Range.{Range}
use Rattle.proof_text.specs.LineSpelling.{same_ranges}

abbrev range : ℕ → List ℕ → Range
range at bytes = record { at = at; bytes = bytes }

pub same-ranges : (rs ss : List Range) → same_ranges rs ss ≡ true → rs ≡ ss
same-ranges [] [] h = refl
same-ranges [] (s ∷ ss) h = absurd cc
same-ranges (r ∷ rs) [] h = absurd cc
same-ranges (r ∷ rs) (s ∷ ss) h =
    let k = and_parts (r.at == s.at && bytes_eq r.bytes s.bytes) (same_ranges rs ss) h in
    let l = and_parts (r.at == s.at) (bytes_eq r.bytes s.bytes) k.0 in
    let at : r.at ≡ s.at = eqb-true r.at s.at l.0 in
    let bytes : r.bytes ≡ s.bytes = (bytes_eq-Decides r.bytes s.bytes).0 l.1 in
    let first : r ≡ s = ap (λ a. range a r.bytes) at ∙ ap (range s.at) bytes in
    ap (λ q. q ∷ rs) first ∙ ap (λ qs. s ∷ qs) (same-ranges rs ss k.1)

pub ranges-same : (rs : List Range) → same_ranges rs rs ≡ true
ranges-same [] = refl
ranges-same (r ∷ rs) =
    and_from (r.at == r.at && bytes_eq r.bytes r.bytes) (same_ranges rs rs)
    (and_from (r.at == r.at) (bytes_eq r.bytes r.bytes) (eq-eqb r.at r.at refl) ((bytes_eq-Decides r.bytes r.bytes).1 refl)) (ranges-same rs)

same-test : (a b : Bool) → (a ≡ true → b ≡ true) → (b ≡ true → a ≡ true) → a ≡ b
same-test true b f g = sym (f refl)
same-test false true f g = g refl
same-test false false f g = refl

-- a test of whether they are the same
pub ranges-tested : (test : Bool) (rs ss : List Range) → (test ≡ true ↔ rs ≡ ss) → test ≡ same_ranges rs ss
ranges-tested test rs ss h =
    same-test test (same_ranges rs ss) (λ e. ap (same_ranges rs) (sym (h.0 e)) ∙ ranges-same rs) (λ e. h.1 (same-ranges rs ss e))
