-- What is left after a piece was appended in part.
use Rattle.std.proofs.Common.{◌≡◌, ℕ, zero, suc, ◌+◌, ◌/◌, ◌%◌, ◌<◌, List, [], ◌∷◌, ◌++◌, length, take, slice_index, refl, sym, ap, ◌∙◌, append_assoc, arith}
use Rattle.std.proofs.lemmas.List.{take_at, append-nil}
use Rattle.hex.specs.Hex.{lower_digits, encode_with, encode_lower}

pub taken-off : (old part whole left : List ℕ) (start : ℕ) → start ≡ length old → whole ≡ old ++ part → left ≡ take start whole → left ≡ old
taken-off old part whole left start s w t = t ∙ ap (take start) w ∙ take_at old part start (sym s)

pub none-encoded : (old : List ℕ) → old ≡ old ++ encode_lower []
unfolding encode_with
none-encoded old = sym (append-nil old)

encode-more : (bytes : List ℕ) (i : ℕ) → i < length bytes → encode_lower (take (i + 1) bytes) ≡ encode_lower (take i bytes) ++ encode_lower (slice_index bytes i ∷ [])
unfolding encode_with
encode-more [] i lt = absurd (omega arith)
encode-more (b ∷ bytes) zero lt = refl
encode-more (b ∷ bytes) (suc i) lt =
    let e : suc i + 1 ≡ suc (i + 1) = omega arith in
    (λ k. encode_lower (take (e k) (b ∷ bytes))) ∙ ap (λ (s : List ℕ). slice_index lower_digits (b / 16) ∷ slice_index lower_digits (b % 16) ∷ s) (encode-more bytes i (omega arith))

pub more-encoded : (old now new bytes pair : List ℕ) (i : ℕ) → i < length bytes → now ≡ old ++ encode_lower (take i bytes) → pair ≡ encode_lower (slice_index bytes i ∷ []) → new ≡ now ++ pair
    → new ≡ old ++ encode_lower (take (i + 1) bytes)
more-encoded old now new bytes pair i lt n p e =
    e ∙ (λ k. n k ++ p k) ∙ append_assoc old (encode_lower (take i bytes)) (encode_lower (slice_index bytes i ∷ []))
    ∙ sym (ap (λ (s : List ℕ). old ++ s) (encode-more bytes i lt))
