-- Bytes are read as they are spelled.
use Rattle.std.proofs.Common.{◌≡◌, ℕ, zero, suc, ◌+◌, ◌*◌, ◌/◌, ◌%◌, ◌<◌, Bool, true, false, ◌&&◌, cond, eqb, ltb, List, [], ◌∷◌, Option, Some, None, unwrap_or, Result, Ok, Err, slice_index, true≢false, refl, sym, ap, subst, ◌∙◌, arith, inl, inr}
use Rattle.std.specs.Prelude.{IsSome, is_some, ◌↔◌}
use Rattle.std.specs.List.{AllByRecursion, AllPass}
use Rattle.std.specs.Str.{bytes_eq}
use Rattle.std.proofs.lemmas.Bool.{ltb-true, eqb-true, and_parts, cases_lt}
use Rattle.std.proofs.lemmas.Bool.Decides.{nat_tests}
use Rattle.std.proofs.lemmas.List.Elements.{All-cons, All-head, All-nil, All-tail}
use Rattle.std.proofs.lemmas.Slice.Eq.{bytes_eq-Decides}
use Rattle.hex.specs.declared.error.FromHexError.{FromHexError}
use Rattle.hex.specs.Hex.{lower_digits, encode_with, encode_lower, hex_digit_value, is_hex_digit as is_any_digit, digit_or_error, pair_value, value_at, decode_pairs, decode_of, IsBytes}
use Rattle.hex.proofs.Pairs.{cons_byte, decode_pairs-ok_pair}
use Rattle.hex.proofs.HexLemmas.{length-encode_with, decode_of-encode_lower, decode_of-ok, decode_of-even, decode_of-digits}
use Rattle.mc_text.specs.Number.{is_hex_digit, AreSomeBytes, AreDigitPairs, Spelled, spelled_by, bytes_of_digits}
use Rattle.mc_text.specs.inner.Number.{value_of}
use Rattle.mc_text.proofs.Numbers.{Pass}

-- the value of a digit in lower case
abbrev value : ℕ → ℕ
value c = unwrap_or (hex_digit_value c) 99

-- the test of one digit, which computes
abbrev reads_back : ℕ → Bool
reads_back c = cond (is_hex_digit c) (ltb (value c) 16 && eqb (slice_index lower_digits (value c)) c) true

abbrev all_read_back : ℕ → Bool
all_read_back zero = true
all_read_back (suc n) = reads_back n && all_read_back n

all_read_back-at : (n k : ℕ) → all_read_back n ≡ true → k < n → reads_back k ≡ true
all_read_back-at zero k h lt = absurd (omega arith)
all_read_back-at (suc n) k h lt =
    let parts = and_parts (reads_back n) (all_read_back n) h in
    elim (cases_lt k n) [
      | inl less ↦ all_read_back-at n k parts.1 less
      | inr top ↦ let e : k ≡ n = omega arith in rw e parts.0
    ]

-- a digit has a value below sixteen, and stands there in the table
record IsLower (c : ℕ) : Type 0 where
  small : value c < 16
  there : slice_index lower_digits (value c) ≡ c
  some : hex_digit_value c ≡ Some (value c)

some_value : (o : Option ℕ) → unwrap_or o 99 < 16 → o ≡ Some (unwrap_or o 99)
some_value (Some v) h = refl
some_value None h = absurd (omega arith)

lower : (c : ℕ) → is_hex_digit c ≡ true → IsLower c
lower c h =
    let small : c < 128 = grind (arith, nat_tests) in
    let test : cond (is_hex_digit c) (ltb (value c) 16 && eqb (slice_index lower_digits (value c)) c) true ≡ true = all_read_back-at 128 c refl small in
    let both : ltb (value c) 16 && eqb (slice_index lower_digits (value c)) c ≡ true = sym (λ i. cond (h i) (ltb (value c) 16 && eqb (slice_index lower_digits (value c)) c) true) ∙ test in
    let parts = and_parts (ltb (value c) 16) (eqb (slice_index lower_digits (value c)) c) both in
    let lt = ltb-true (value c) 16 parts.0 in
    record { small = lt; there = eqb-true _ _ parts.1; some = some_value (hex_digit_value c) lt }

-- pairs of such digits are the encoding of the bytes that they decode to
pairs-encode : (i : ℕ) (s bytes : List ℕ) → Pass is_hex_digit s → decode_pairs i s ≡ Ok bytes → s ≡ encode_lower bytes
unfolding decode_pairs encode_with
pairs-encode i [] bytes h e = let same : [] ≡ bytes = cc in ap encode_lower same
pairs-encode i (a ∷ []) bytes h e = absurd cc
pairs-encode i (a ∷ b ∷ rest) bytes h e =
    let high = lower a h.0 in
    let low = lower b h.1.0 in
    let byte = value a * 16 + value b in
    let read-a : value_at a i ≡ Ok (value a) = ap (digit_or_error a i) high.some in
    let read-b : value_at b (i + 1) ≡ Ok (value b) = ap (digit_or_error b (i + 1)) low.some in
    let pair : pair_value a b i ≡ Ok byte = rw (read-a, read-b) refl in
    let c = cons_byte-ok byte (decode_pairs (i + 2) rest) bytes (sym (decode_pairs-ok_pair i a b byte rest pair) ∙ e) in
    let ih = pairs-encode (i + 2) rest c.0 h.1.1 c.1 in
    let high-is : a ≡ slice_index lower_digits (byte / 16) = let q : byte / 16 ≡ value a = omega (arith, low.small) in sym (ap (slice_index lower_digits) q ∙ high.there) in
    let low-is : b ≡ slice_index lower_digits (byte % 16) = let q : byte % 16 ≡ value b = omega (arith, low.small) in sym (ap (slice_index lower_digits) q ∙ low.there) in
    (λ k. high-is k ∷ low-is k ∷ ih k) ∙ ap encode_lower c.2
  where
    cons_byte-ok : (byte : ℕ) (r : Result (List ℕ) FromHexError) (bytes : List ℕ) → cons_byte byte r ≡ Ok bytes → (more : List ℕ) × (r ≡ Ok more) × (byte ∷ more ≡ bytes)
    cons_byte-ok byte (Ok more) bytes e = (more, refl, cc)
    cons_byte-ok byte (Err x) bytes e = absurd cc

abbrev pub AreSmall : List ℕ → Type 0
AreSmall bs = AllByRecursion (λ b. b < 256) bs

are_small : (bs : List ℕ) → IsBytes bs → AreSmall bs
are_small [] h = tt
are_small (b ∷ bs) h = (h 0, are_small bs (λ i. h (suc i)))

pub is_bytes : (bs : List ℕ) → AreSmall bs → IsBytes bs
is_bytes [] h i = omega arith
is_bytes (b ∷ bs) h zero = h.0
is_bytes (b ∷ bs) h (suc i) = is_bytes bs h.1 i

-- each entry of the table is a digit
abbrev table_passes : ℕ → Bool
table_passes zero = true
table_passes (suc n) = is_hex_digit (slice_index lower_digits n) && table_passes n

table-at : (n k : ℕ) → table_passes n ≡ true → k < n → is_hex_digit (slice_index lower_digits k) ≡ true
table-at zero k h lt = absurd (omega arith)
table-at (suc n) k h lt =
    let parts = and_parts (is_hex_digit (slice_index lower_digits n)) (table_passes n) h in
    elim (cases_lt k n) [
      | inl less ↦ table-at n k parts.1 less
      | inr top ↦ let e : k ≡ n = omega arith in subst (λ (j : ℕ). is_hex_digit (slice_index lower_digits j) ≡ true) (sym e) parts.0
    ]

pub encode-pass : (bs : List ℕ) → AreSmall bs → Pass is_hex_digit (encode_lower bs)
unfolding encode_with
encode-pass [] h = tt
encode-pass (b ∷ bs) h = (table-at 16 (b / 16) refl (omega (arith, h.0)), (table-at 16 (b % 16) refl (omega arith), encode-pass bs h.1))

-- ---- all pass, by places and by recursion

pass-from : (p : ℕ → Bool) (xs : List ℕ) → AllPass p xs → Pass p xs
pass-from p [] h = tt
pass-from p (x ∷ xs) h = (All-head (λ x. p x ≡ true) x xs h, pass-from p xs (All-tail (λ x. p x ≡ true) x xs h))

pass-to : (p : ℕ → Bool) (xs : List ℕ) → Pass p xs → AllPass p xs
pass-to p [] h = All-nil (λ x. p x ≡ true)
pass-to p (x ∷ xs) h = All-cons (λ x. p x ≡ true) x xs h.0 (pass-to p xs h.1)

-- ---- what an atom spells

decoded : (text bytes : List ℕ) → Pass is_hex_digit text → decode_of text ≡ Ok bytes → (text ≡ encode_lower bytes) × AreSmall bytes
decoded text bytes h e =
    let ok = decode_of-ok text bytes e in
    (pairs-encode 0 text bytes h (sym (decode_of-even text ok.0) ∙ e), are_small bytes ok.3)

abbrev ok : List ℕ → Result (List ℕ) FromHexError
ok bytes = Ok bytes

abbrev pub SpelledBytes : List ℕ → Option (List ℕ) → Type 0
SpelledBytes text o = Spelled AreSomeBytes encode_lower text o

nothing-spelled : (bytes : List ℕ) → AreSomeBytes bytes → [] ≡ encode_lower bytes → ⊥
unfolding encode_with
nothing-spelled [] h s = h.0 refl
nothing-spelled (b ∷ bs) h s = absurd cc

other-spelled : (text : List ℕ) → (AllPass is_hex_digit text → ⊥) → SpelledBytes text None
other-spelled text n bytes h s = n (subst (AllPass is_hex_digit) (sym s) (pass-to is_hex_digit (encode_lower bytes) (encode-pass bytes h.1)))

pub none-spelled : (text : List ℕ) → ((text ≡ [] → ⊥) × AllPass is_hex_digit text → ⊥) → SpelledBytes text None
none-spelled [] n = nothing-spelled
none-spelled (b ∷ text) n = other-spelled (b ∷ text) (λ h. n ((λ e. cc), h))

decoding : (text : List ℕ) (r : Result (List ℕ) FromHexError) → (text ≡ [] → ⊥) → Pass is_hex_digit text → decode_of text ≡ r → SpelledBytes text (value_of r)
unfolding encode_with
decoding text (Ok bytes) some h e = let d = decoded text bytes h e in ((λ none. some (d.0 ∙ ap encode_lower none), d.1), d.0)
decoding text (Err x) some h e = λ bytes f s. never x bytes (sym e ∙ ap decode_of s ∙ decode_of-encode_lower bytes (is_bytes bytes f.1))
  where
    never : (x : FromHexError) (bytes : List ℕ) → Err x ≡ Ok bytes → ⊥
    never x bytes k = cc

pub digits-spelled : (text : List ℕ) (o : Option (List ℕ)) → (text ≡ [] → ⊥) → AllPass is_hex_digit text → o ≡ value_of (decode_of text) → SpelledBytes text o
digits-spelled text o some h e = subst (SpelledBytes text) (sym e) (decoding text (decode_of text) some (pass-from is_hex_digit text h) refl)

-- ---- where it spells any

any-digit : (xs : List ℕ) → Pass is_hex_digit xs → Pass is_any_digit xs
any-digit [] h = tt
any-digit (x ∷ xs) h = (ap is_some (lower x h.0).some, any-digit xs h.1)

spelled-pairs : (bytes : List ℕ) → AreSomeBytes bytes → AreDigitPairs (encode_lower bytes)
unfolding encode_with
spelled-pairs [] h = absurd (h.0 refl)
spelled-pairs (b ∷ bs) h = record {
  even = let len = length-encode_with lower_digits (b ∷ bs) in omega (arith, len);
  some = λ e. cc;
  digits = pass-to is_hex_digit (encode_lower (b ∷ bs)) (encode-pass (b ∷ bs) h.1);
}

pub spelled-found : (text : List ℕ) (o : Option (List ℕ)) → SpelledBytes text o → IsSome o ↔ AreDigitPairs text
spelled-found text (Some bytes) h = (λ s. subst AreDigitPairs (sym h.1) (spelled-pairs bytes h.0), λ p. refl)
spelled-found text None h = (λ s. absurd (true≢false (sym s)), λ p. absurd (there p))
  where
    there : AreDigitPairs text → ⊥
    there p =
        let pass = pass-from is_hex_digit text p.digits in
        let r = decode_of-digits text p.even (pass-to is_any_digit text (any-digit text pass)) in
        let d = decoding text (Ok r.0) p.some pass r.1 in
        h r.0 d.0 d.1

-- ---- the same by computing

spelled-back : (text bytes : List ℕ) (b : Bool) → bytes_eq (encode_lower bytes) text ≡ b → AreSomeBytes bytes → SpelledBytes text None → None ≡ cond b (Some bytes) None
spelled-back text bytes true e f h = absurd (h bytes f (sym ((bytes_eq-Decides (encode_lower bytes) text).0 e)))
spelled-back text bytes false e f h = refl

read-back : (b : ℕ) (text : List ℕ) (r : Result (List ℕ) FromHexError) → decode_of (b ∷ text) ≡ r → SpelledBytes (b ∷ text) None → None ≡ spelled_by (b ∷ text) r
unfolding encode_with
read-back b text (Err x) e h = refl
read-back b text (Ok []) e h = absurd (let len = (decode_of-ok (b ∷ text) [] e).2 in omega (arith, len))
read-back b text (Ok (c ∷ bytes)) e h =
    spelled-back (b ∷ text) (c ∷ bytes) (bytes_eq (encode_lower (c ∷ bytes)) (b ∷ text)) refl ((λ none. cc), are_small (c ∷ bytes) (decode_of-ok (b ∷ text) (c ∷ bytes) e).3) h

pub spelled-read : (text : List ℕ) (o : Option (List ℕ)) → SpelledBytes text o → o ≡ bytes_of_digits text
unfolding bytes_of_digits encode_with
spelled-read [] None h = refl
spelled-read [] (Some []) h = absurd (h.0.0 refl)
spelled-read [] (Some (c ∷ bytes)) h = let e = h.1 in absurd cc
spelled-read (b ∷ text) None h = read-back b text (decode_of (b ∷ text)) refl h
spelled-read (b ∷ text) (Some bytes) h =
    let d : decode_of (b ∷ text) ≡ Ok bytes = ap decode_of h.1 ∙ decode_of-encode_lower bytes (is_bytes bytes h.0.1) in
    sym (ap (spelled_by (b ∷ text)) d ∙ (λ i. cond ((bytes_eq-Decides (encode_lower bytes) (b ∷ text)).1 (sym h.1) i) (Some bytes) None))

any-spelled : (text bytes : List ℕ) (b : Bool) → decode_of text ≡ Ok bytes → (text ≡ [] → ⊥) → AreSmall bytes → bytes_eq (encode_lower bytes) text ≡ b → SpelledBytes text (cond b (Some bytes) None)
unfolding encode_with
any-spelled text bytes true d n h e =
    let is = (bytes_eq-Decides (encode_lower bytes) text).0 e in
    (((λ none. n (sym is ∙ ap encode_lower none)), h), sym is)
any-spelled text bytes false d n h e = λ other f s.
    let same : other ≡ bytes = ok-same other bytes (sym (decode_of-encode_lower other (is_bytes other f.1)) ∙ ap decode_of (sym s) ∙ d) in
    true≢false (sym ((bytes_eq-Decides (encode_lower bytes) text).1 (ap encode_lower (sym same) ∙ sym s)) ∙ e)
  where
    ok-same : (other bytes : List ℕ) → ok other ≡ ok bytes → other ≡ bytes
    ok-same other bytes k = cc

told-by : (b : ℕ) (text : List ℕ) (r : Result (List ℕ) FromHexError) → decode_of (b ∷ text) ≡ r → SpelledBytes (b ∷ text) (spelled_by (b ∷ text) r)
told-by b text (Ok bytes) e = any-spelled (b ∷ text) bytes (bytes_eq (encode_lower bytes) (b ∷ text)) e (λ none. cc) (are_small bytes (decode_of-ok (b ∷ text) bytes e).3) refl
told-by b text (Err x) e = λ other f s. clash x other (sym e ∙ ap decode_of s ∙ decode_of-encode_lower other (is_bytes other f.1))
  where
    clash : (x : FromHexError) (other : List ℕ) → Err x ≡ ok other → ⊥
    clash x other k = cc

told : (text : List ℕ) → SpelledBytes text (bytes_of_digits text)
unfolding bytes_of_digits
told [] = nothing-spelled
told (b ∷ text) = told-by b text (decode_of (b ∷ text)) refl

pub bytes_of-spelled : (text : List ℕ) (o : Option (List ℕ)) → o ≡ bytes_of_digits text → SpelledBytes text o
bytes_of-spelled text o e = subst (SpelledBytes text) (sym e) (told text)
