-- Ranges in order are determined by their bytes.
use Rattle.std.proofs.Common.{◌≡◌, ℕ, ◌+◌, ◌-◌, ◌<◌, ◌≤◌, Some, None, List, [], ◌∷◌, length, get_or, refl, sym, ◌∙◌, ap, arith, ⊎_elim}
use Rattle.std.specs.Prelude.{slice_get}
use Rattle.std.specs.Option.{option_or}
use Rattle.std.proofs.lemmas.Bool.{cases_lt}
use Rattle.std.proofs.lemmas.List.{ext_get_or}
use Rattle.std.proofs.lemmas.Option.{none-some, slice_get-get_or}
use Rattle.rv_words.proofs.PieceLemmas.{bytes_before, bytes_past, bytes_within}
use Rattle.rv_words.specs.Ranges.{AreRanges, AreRangesFrom, range_bytes}
use Rattle.rv_words.specs.declared.range.Range.{Range}

below : (rs : List Range) (least a : ℕ) → AreRangesFrom least rs → a < least → range_bytes rs a ≡ None
below [] least a are lt = refl
below (r ∷ rs) least a are lt =
    let above : least ≤ r.at = are.0 in
    let later = below rs (r.at + length r.bytes + 1) a are.3 (omega arith) in
    λ i. option_or (bytes_before r.at r.bytes a (omega arith) i) (later i)

module _ (least : ℕ) (x : Range) (xs : List Range) (are : AreRangesFrom least (x ∷ xs)) where
  -- each byte of the first range
  byte-at : (k : ℕ) → k < length x.bytes → range_bytes (x ∷ xs) (x.at + k) ≡ Some (get_or x.bytes k 0)
  byte-at k lt =
      let place : x.at + k - x.at ≡ k = omega arith in
      let here = bytes_within x.at x.bytes (x.at + k) (omega arith) ∙ ap (slice_get x.bytes) place ∙ slice_get-get_or x.bytes k 0 lt in
      λ i. option_or (here i) (range_bytes xs (x.at + k))

  before : (a : ℕ) → a < x.at → range_bytes (x ∷ xs) a ≡ None
  before a lt =
      let later = below xs (x.at + length x.bytes + 1) a are.3 (omega arith) in
      λ i. option_or (bytes_before x.at x.bytes a lt i) (later i)

  -- no byte stands right behind it
  gap : range_bytes (x ∷ xs) (x.at + length x.bytes) ≡ None
  gap =
      let later = below xs (x.at + length x.bytes + 1) (x.at + length x.bytes) are.3 (omega arith) in
      λ i. option_or (bytes_past x.at x.bytes (x.at + length x.bytes) (omega arith) i) (later i)

  behind-it : (a : ℕ) → x.at + length x.bytes ≤ a → range_bytes (x ∷ xs) a ≡ range_bytes xs a
  behind-it a le = λ i. option_or (bytes_past x.at x.bytes a le i) (range_bytes xs a)

  in-front : (a : ℕ) → a < x.at + length x.bytes → range_bytes xs a ≡ None
  in-front a lt = below xs (x.at + length x.bytes + 1) a are.3 (omega arith)

module _ (l m : ℕ) (x y : Range) (xs ys : List Range) (arex : AreRangesFrom l (x ∷ xs)) (arey : AreRangesFrom m (y ∷ ys)) (same : range_bytes (x ∷ xs) ≡ range_bytes (y ∷ ys)) where
  -- the first one begins no later
  no-later : x.at ≤ y.at
  no-later = ⊎_elim
      (λ (lt : y.at < x.at).
      let has : 0 < length y.bytes = arey.1 in
      let here : y.at + 0 ≡ y.at = omega arith in
      absurd (none-some _ (sym (before l x xs arex y.at lt) ∙ (λ i. same i y.at) ∙ ap (range_bytes (y ∷ ys)) (sym here) ∙ byte-at m y ys arey 0 has)))
      (λ (le : x.at ≤ y.at). le)
      (cases_lt y.at x.at)

  no-longer : x.at ≡ y.at → length y.bytes ≤ length x.bytes
  no-longer at = ⊎_elim
      (λ (lt : length x.bytes < length y.bytes).
      let here : x.at + length x.bytes ≡ y.at + length x.bytes = ap (λ n. n + length x.bytes) at in
      absurd (none-some _ (sym (gap l x xs arex) ∙ (λ i. same i (x.at + length x.bytes)) ∙ ap (range_bytes (y ∷ ys)) here ∙ byte-at m y ys arey (length x.bytes) lt)))
      (λ (le : length y.bytes ≤ length x.bytes). le)
      (cases_lt (length x.bytes) (length y.bytes))

some-same : (b c : ℕ) → Some b ≡ Some c → b ≡ c
some-same b c e = cc

module _ (l m : ℕ) (x y : Range) (xs ys : List Range) (arex : AreRangesFrom l (x ∷ xs)) (arey : AreRangesFrom m (y ∷ ys)) (same : range_bytes (x ∷ xs) ≡ range_bytes (y ∷ ys)) where
  at-same : x.at ≡ y.at
  at-same = let a = no-later l m x y xs ys arex arey same in let b = no-later m l y x ys xs arey arex (sym same) in omega (arith, a, b)

  long-same : length x.bytes ≡ length y.bytes
  long-same =
      let a = no-longer l m x y xs ys arex arey same at-same in
      let b = no-longer m l y x ys xs arey arex (sym same) (sym at-same) in
      omega (arith, a, b)

  byte-same : (k : ℕ) → k < length x.bytes → get_or x.bytes k 0 ≡ get_or y.bytes k 0
  byte-same k lt =
      let long = long-same in
      some-same _ _ (sym (byte-at l x xs arex k lt) ∙ (λ i. same i (at-same i + k)) ∙ byte-at m y ys arey k (omega (arith, lt, long)))

  first-same : x ≡ y
  first-same = let bytes = ext_get_or 0 x.bytes y.bytes long-same byte-same in λ i. record { at = at-same i; bytes = bytes i }

  rest-same : range_bytes xs ≡ range_bytes ys
  rest-same =
      let at = at-same in
      let long = long-same in
      let here : (a : ℕ) → range_bytes xs a ≡ range_bytes ys a = λ a. ⊎_elim
      (λ (lt : a < x.at + length x.bytes). in-front l x xs arex a lt ∙ sym (in-front m y ys arey a (omega (arith, at, long))))
      (λ (le : x.at + length x.bytes ≤ a). sym (behind-it l x xs arex a le) ∙ (λ i. same i a) ∙ behind-it m y ys arey a (omega (arith, at, long)))
      (cases_lt a (x.at + length x.bytes)) in
      λ i a. here a i

ranges-same : (l m : ℕ) (xs ys : List Range) → AreRangesFrom l xs → AreRangesFrom m ys → range_bytes xs ≡ range_bytes ys → xs ≡ ys
ranges-same l m [] [] arex arey same = refl
ranges-same l m [] (y ∷ ys) arex arey same = absurd (none-some _ ((λ i. same i (y.at + 0)) ∙ byte-at m y ys arey 0 arey.1))
ranges-same l m (x ∷ xs) [] arex arey same = absurd (none-some _ ((λ i. sym same i (x.at + 0)) ∙ byte-at l x xs arex 0 arex.1))
ranges-same l m (x ∷ xs) (y ∷ ys) arex arey same =
    let rest = ranges-same (x.at + length x.bytes + 1) (y.at + length y.bytes + 1) xs ys arex.3 arey.3 (rest-same l m x y xs ys arex arey same) in
    λ i. first-same l m x y xs ys arex arey same i ∷ rest i

-- two codes in order with the same bytes are the same ranges
pub same_ranges : (xs ys : List Range) → AreRanges xs → AreRanges ys → range_bytes xs ≡ range_bytes ys → xs ≡ ys
same_ranges xs ys arex arey same = ranges-same 0 0 xs ys arex arey same
