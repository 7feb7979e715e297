-- Tokens that a test takes, and that what is written is a token.
use Rattle.std.proofs.Common.{◌≡◌, ℕ, ◌^◌, ◌<◌, ◌≤◌, Bool, true, false, cond, ltb, List, [], ◌∷◌, ◌++◌, length, Option, Some, None, refl, sym, ap, subst, ◌∙◌, arith}
use Rattle.std.proofs.lemmas.Bool.{ltb-true, lt-ltb}
use Rattle.std.proofs.lemmas.Bool.Decides.{nat_tests}
use Rattle.std.proofs.lemmas.Fmt.{digits_is_IsNumeral}
use Rattle.std.proofs.lemmas.Slice.Eq.{bytes_eq-Decides}
use Rattle.std.proofs.Math.Nat.{pow-le-pow_left}
use Rattle.std.specs.Str.{bytes_eq}
use Rattle.std.specs.Fmt.{decimal, digits}
use Rattle.hex.specs.Hex.{encode_with, encode_lower}
use Rattle.mc_text.specs.Number.{hex, is_hex_digit, IsNumber, AreSomeBytes, Spelled, number_of, hex_of, bytes_of_digits as bytes_spelled}
use Rattle.mc_text.specs.Tokens.{Tok, Left, Right, Semi, Atom, Eol, Done, Stuck, is_atom_byte, IsAtom}
use Rattle.mc_text.specs.Reading.{is_left, is_right, atom_of, below}
use Rattle.mc_text.specs.inner.Reading.{is_semi, is_eol, is_word}
use Rattle.std.specs.List.{AllByRecursion, flat_map}
use Rattle.mc_text.proofs.Numbers.{Pass, Passes, digits-pass, number-spelled, hex_of-spelled}
use Rattle.mc_text.proofs.HexPairs.{bytes_of-spelled, encode-pass}
use Rattle.mc_text.proofs.Atoms.{text-atom}
use Rattle.mc_text.proofs.Lines.{AreTokens}
use Rattle.mc_text.proofs.OneSpelling.{decimal-once, hex-once, bytes-once}
use Rattle.mc_text.proofs.ReaderLaws.{Shows}

abbrev pub Always : {X : Type 0} → X → Type 0
Always x = Unit {0}

-- ---- marks and words

pub shows-left : Shows is_left Always (λ x. Left)
shows-left = record {
  there = elim [ Left ↦ λ x e. (refl, tt) | Right ↦ λ x e. absurd cc | Semi ↦ λ x e. absurd cc | Atom a ↦ λ x e. absurd cc | Eol ↦ λ x e. absurd cc | Done ↦ λ x e. absurd cc | Stuck ↦ λ x e. absurd cc ];
  back = λ x h. refl;
}

pub shows-right : Shows is_right Always (λ x. Right)
shows-right = record {
  there = elim [ Left ↦ λ x e. absurd cc | Right ↦ λ x e. (refl, tt) | Semi ↦ λ x e. absurd cc | Atom a ↦ λ x e. absurd cc | Eol ↦ λ x e. absurd cc | Done ↦ λ x e. absurd cc | Stuck ↦ λ x e. absurd cc ];
  back = λ x h. refl;
}

pub shows-semi : Shows is_semi Always (λ x. Semi)
shows-semi = record {
  there = elim [ Left ↦ λ x e. absurd cc | Right ↦ λ x e. absurd cc | Semi ↦ λ x e. (refl, tt) | Atom a ↦ λ x e. absurd cc | Eol ↦ λ x e. absurd cc | Done ↦ λ x e. absurd cc | Stuck ↦ λ x e. absurd cc ];
  back = λ x h. refl;
}

pub shows-eol : Shows is_eol Always (λ x. Eol)
shows-eol = record {
  there = elim [ Left ↦ λ x e. absurd cc | Right ↦ λ x e. absurd cc | Semi ↦ λ x e. absurd cc | Atom a ↦ λ x e. absurd cc | Eol ↦ λ x e. (refl, tt) | Done ↦ λ x e. absurd cc | Stuck ↦ λ x e. absurd cc ];
  back = λ x h. refl;
}

-- ---- atoms

module _ {X : Type 0} (f : List ℕ → Option X) (Fits : X → Type 0) (spelling : X → List ℕ) (there : (a : List ℕ) (x : X) → f a ≡ Some x → (a ≡ spelling x) × Fits x) (back : (x : X) → Fits x → f (spelling x) ≡ Some x) where
  atom-there : (t : Tok) (x : X) → atom_of f t ≡ Some x → (t ≡ Atom (spelling x)) × Fits x
  atom-there (Atom a) x e = let h = there a x e in (ap (λ (b : List ℕ). Atom b) h.0, h.1)
  atom-there Left x e = absurd cc
  atom-there Right x e = absurd cc
  atom-there Semi x e = absurd cc
  atom-there Eol x e = absurd cc
  atom-there Done x e = absurd cc
  atom-there Stuck x e = absurd cc

  -- what a test of atoms takes
  pub shows-atom : Shows (atom_of f) Fits (λ x. Atom (spelling x))
  shows-atom = record { there = atom-there; back = back }

abbrev some : {X : Type 0} → X → Option X
some x = Some x

word-there : (k a : List ℕ) (b : Bool) (x : Unit {0}) → bytes_eq a k ≡ b → cond b (some {X = Unit {0}} tt) None ≡ some x → (Atom a ≡ Atom k) × Always x
word-there k a true x e h = (ap (λ (c : List ℕ). Atom c) ((bytes_eq-Decides a k).0 e), tt)
word-there k a false x e h = absurd cc

pub shows-word : (k : List ℕ) → Shows (is_word k) Always (λ x. Atom k)
shows-word k = record {
  there = elim [ Left ↦ λ x e. absurd cc | Right ↦ λ x e. absurd cc | Semi ↦ λ x e. absurd cc | Atom a ↦ λ x e. word-there k a (bytes_eq a k) x refl e | Eol ↦ λ x e. absurd cc | Done ↦ λ x e. absurd cc | Stuck ↦ λ x e. absurd cc ];
  back = λ x h. ap (λ (b : Bool). cond b (some {X = Unit {0}} tt) None) ((bytes_eq-Decides k k).1 refl);
}

-- what the text spells, where spelling is by the definition
module _ {X : Type 0} (f : List ℕ → Option X) (Fits : X → Type 0) (spelling : X → List ℕ) (told : (a : List ℕ) (o : Option X) → o ≡ f a → Spelled Fits spelling a o)
    (once : (x y : X) → Fits x → Fits y → spelling x ≡ spelling y → x ≡ y) where
  pub spelled-there : (a : List ℕ) (x : X) → f a ≡ Some x → (a ≡ spelling x) × Fits x
  spelled-there a x e = let h = told a (Some x) (sym e) in (h.1, h.0)

  found : (x : X) (o : Option X) → Fits x → Spelled Fits spelling (spelling x) o → o ≡ Some x
  found x (Some y) h s = ap some (sym (once x y h s.0 s.1))
  found x None h s = absurd (s x h refl)

  pub spelled-back : (x : X) → Fits x → f (spelling x) ≡ Some x
  spelled-back x h = found x (f (spelling x)) h (told (spelling x) (f (spelling x)) refl)

pub shows-decimal : Shows (atom_of (number_of 10)) IsNumber (λ n. Atom (decimal n))
shows-decimal = shows-atom (number_of 10) IsNumber decimal
    (spelled-there (number_of 10) IsNumber decimal (λ a o e. number-spelled 10 a o (omega arith) (omega arith) e) decimal-once)
    (spelled-back (number_of 10) IsNumber decimal (λ a o e. number-spelled 10 a o (omega arith) (omega arith) e) decimal-once)

pub shows-hex : Shows (atom_of hex_of) IsNumber (λ n. Atom (hex n))
shows-hex = shows-atom hex_of IsNumber hex (spelled-there hex_of IsNumber hex hex_of-spelled hex-once) (spelled-back hex_of IsNumber hex hex_of-spelled hex-once)

pub shows-bytes : Shows (atom_of bytes_spelled) AreSomeBytes (λ bytes. Atom (encode_lower bytes))
shows-bytes = shows-atom bytes_spelled AreSomeBytes encode_lower (spelled-there bytes_spelled AreSomeBytes encode_lower bytes_of-spelled bytes-once) (spelled-back bytes_spelled AreSomeBytes encode_lower bytes_of-spelled bytes-once)

-- numbers below a limit
below-there : (limit : ℕ) (o : Option ℕ) (n : ℕ) → below limit o ≡ some n → (o ≡ some n) × (n < limit)
below-there limit None n e = absurd cc
below-there limit (Some m) n e = choose (ltb m limit) refl e
  where
    choose : (b : Bool) → ltb m limit ≡ b → cond b (some m) None ≡ some n → (some m ≡ some n) × (n < limit)
    choose true t e = (e, let same : m ≡ n = cc in subst (λ (k : ℕ). k < limit) same (ltb-true m limit t))
    choose false t e = absurd cc

pub shows-below : (limit : ℕ) → limit ≤ 2 ^ 64 → Shows (atom_of (λ a. below limit (number_of 10 a))) (λ n. n < limit) (λ n. Atom (decimal n))
shows-below limit le = shows-atom (λ a. below limit (number_of 10 a)) (λ n. n < limit) decimal
    (λ a n e. let b = below-there limit (number_of 10 a) n e in let h = shows-number-there a n b.0 in (h.0, b.1))
    (λ n lt. ap (below limit) (shows-number-back n (omega (arith, le, lt))) ∙ ap (λ (b : Bool). cond b (some n) None) (lt-ltb n limit lt))
  where
    shows-number-there : (a : List ℕ) (n : ℕ) → number_of 10 a ≡ some n → (a ≡ decimal n) × IsNumber n
    shows-number-there a n e = spelled-there (number_of 10) IsNumber decimal (λ a o e. number-spelled 10 a o (omega arith) (omega arith) e) decimal-once a n e

    shows-number-back : (n : ℕ) → IsNumber n → number_of 10 (decimal n) ≡ some n
    shows-number-back n h = spelled-back (number_of 10) IsNumber decimal (λ a o e. number-spelled 10 a o (omega arith) (omega arith) e) decimal-once n h

-- ---- what is written is an atom

glyph-atom : Passes is_atom_byte 16
glyph-atom d lt = grind (arith, nat_tests)

some-digits : (base n : ℕ) → 2 ≤ base → base ≤ 16 → IsNumber n → digits base false n ≡ [] → ⊥
some-digits base n low high lt e =
    let wide : n < base ^ 64 = omega (arith, lt, pow-le-pow_left low 64) in
    let h = (digits_is_IsNumeral base false low high n wide).0 in
    let len : length (digits base false n) ≡ 0 = ap length e in
    omega (arith, h.0, len)

pub decimal-atom : (n : ℕ) → IsNumber n → IsAtom (decimal n)
decimal-atom n h = text-atom (decimal n) (some-digits 10 n (omega arith) (omega arith) h) (digits-pass is_atom_byte 10 n (omega arith) (λ d lt. glyph-atom d (omega arith)))

pub hex-atom : (n : ℕ) → IsAtom (hex n)
hex-atom n = text-atom (hex n) (λ e. absurd cc) (refl, (refl, digits-pass is_atom_byte 16 n (omega arith) glyph-atom))

hex-digit-atom : (b : ℕ) → is_hex_digit b ≡ true → is_atom_byte b ≡ true
hex-digit-atom b h = grind (arith, nat_tests)

hex-digits-atom : (ds : List ℕ) → Pass is_hex_digit ds → Pass is_atom_byte ds
hex-digits-atom [] h = tt
hex-digits-atom (d ∷ ds) h = (hex-digit-atom d h.0, hex-digits-atom ds h.1)

pub bytes-atom : (bytes : List ℕ) → AreSomeBytes bytes → IsAtom (encode_lower bytes)
unfolding encode_with
bytes-atom [] h = absurd (h.0 refl)
bytes-atom (b ∷ bs) h = text-atom (encode_lower (b ∷ bs)) (λ e. absurd cc) (hex-digits-atom (encode_lower (b ∷ bs)) (encode-pass (b ∷ bs) h.1))

-- ---- lists of tokens of a text

pub tokens-append : (a b : List Tok) → AreTokens a → AreTokens b → AreTokens (a ++ b)
tokens-append [] b h k = k
tokens-append (t ∷ a) b h k = (h.0, tokens-append a b h.1 k)

pub tokens-each : {X : Type 0} (f : X → List Tok) (F : X → Type 0) → ((x : X) → F x → AreTokens (f x)) → (xs : List X) → AllByRecursion F xs → AreTokens (flat_map f xs)
tokens-each f F one [] h = tt
tokens-each f F one (x ∷ xs) h = tokens-append (f x) (flat_map f xs) (one x h.0) (tokens-each f F one xs h.1)
