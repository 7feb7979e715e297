-- The number at an address, by its bytes, and its instruction.
use Rattle.std.proofs.Common.{◌≡◌, ℕ, ◌+◌, ◌*◌, ◌%◌, ◌^◌, ◌<◌, ◌≤◌, eqb, leb, ltb, Bool, true, false, cond, ◌&&◌, ◌↔◌, Option, Some, None, is_some, refl, sym, ap, subst, ◌∙◌, ◌⊎◌, ⊎_elim, inl, inr, arith}
use Rattle.std.proofs.lemmas.Bool.{leb-true}
use Rattle.std.proofs.lemmas.Bool.Decides.{nat_tests}
use Rattle.std.specs.Prelude.{IfSome}
use Rattle.std.specs.Option.{option_and_then, unwrap_or}
use Rattle.rv_words.specs.Bytes.{AreBytes, AreSame, Bytes, after, inside, load, word_at}
use Rattle.rv_words.proofs.MemoryLemmas.{inside-same, load-same, load_small}
use Rattle.rv_decode.specs.declared.instruction.Instr.{Instr}
use Rattle.rv_decode.specs.Decodes.{NamesRegisters, decoded}
use Rattle.rv_decode.proofs.EncodeLemmas.{decoded_named}
use Rattle.rvc.specs.Expands.{compressed}
use Rattle.rvc.specs.Number.{is_word, length_of, number_at, number_in, instruction_of}
use Rattle.rvc.proofs.RangeLemmas.{compressed_named}

-- ---- the number at an address

-- the low byte tells whether a word stands there
low_byte : (x y b : ℕ) → eqb ((b + 256 * x) % 4) 3 ≡ eqb ((b + 256 * y) % 4) 3
low_byte x y b = let e : (b + 256 * x) % 4 ≡ (b + 256 * y) % 4 = omega arith in λ i. eqb (e i) 3

pub parcel-word : (m : Bytes) (a : ℕ) → is_word (load 2 m a) ≡ is_word (load 4 m a)
parcel-word m a = low_byte (load 1 m (after a)) (load 3 m (after a)) (unwrap_or (m a) 0)

two_of_four : (b c d e : Bool) → (b && (c && (d && (e && true)))) ≡ true → (b && (c && true)) ≡ true
two_of_four true true d e h = refl
two_of_four true false d e h = absurd (cc)
two_of_four false c d e h = absurd (cc)

pub inside-two : (m : Bytes) (a : ℕ) → inside 4 m a ≡ true → inside 2 m a ≡ true
inside-two m a h = two_of_four (is_some (m a)) (is_some (m (after a))) (is_some (m (after (after a)))) (is_some (m (after (after (after a))))) h

-- where it is w, its bytes are present and make w
number-parts : (t long full : Bool) (p x w : ℕ) → is_word p ≡ long → is_word p ≡ is_word x → cond t (cond long (cond full (Some x) None) (Some p)) None ≡ Some w
    → (t ≡ true) × (((is_word w ≡ true) × (full ≡ true) × (x ≡ w)) ⊎ ((is_word w ≡ false) × (p ≡ w)))
number-parts false long full p x w is alike e = absurd (cc)
number-parts true true false p x w is alike e = absurd (cc)
number-parts true true true p x w is alike e = let same : x ≡ w = cc in (refl, inl (sym (ap is_word same) ∙ sym alike ∙ is, refl, same))
number-parts true false full p x w is alike e = let same : p ≡ w = cc in (refl, inr (sym (ap is_word same) ∙ is, same))

by_length : (P : ℕ → Type 0) (t long : Bool) → t ≡ long → P (cond long 4 2) → P (cond t 4 2)
by_length P t long e h = subst (λ (b : Bool). P (cond b 4 2)) (sym e) h

-- the number at a is w exactly where as many bytes as w has are present there and make w
pub number_at-is : (m : Bytes) (a w : ℕ) → (number_at m a ≡ Some w) ↔ ((inside (length_of w) m a ≡ true) × (load (length_of w) m a ≡ w))
number_at-is m a w = (
  λ e.
      let parts = number-parts (inside 2 m a) (is_word (load 2 m a)) (inside 4 m a) (load 2 m a) (load 4 m a) w refl (parcel-word m a) e in
      ⊎_elim
      (λ long. by_length (λ n. (inside n m a ≡ true) × (load n m a ≡ w)) (is_word w) true long.0 (long.1, long.2))
      (λ short. by_length (λ n. (inside n m a ≡ true) × (load n m a ≡ w)) (is_word w) false short.0 (parts.0, short.1))
      parts.1,
  λ h. back (is_word w) refl h,
)
  where
    back : (t : Bool) → is_word w ≡ t → (inside (cond t 4 2) m a ≡ true) × (load (cond t 4 2) m a ≡ w) → number_at m a ≡ Some w
    back true is (there, number) =
        let two = inside-two m a there in
        let long : is_word (load 2 m a) ≡ true = parcel-word m a ∙ ap is_word number ∙ is in
        λ i. cond (two i) (cond (long i) (cond (there i) (Some (number i)) None) (Some (load 2 m a))) None
    back false is (there, number) =
        let short : is_word (load 2 m a) ≡ false = ap is_word number ∙ is in
        λ i. cond (there i) (cond (short i) (word_at m a) (Some (number i))) None

-- it depends on no other bytes
pub number-same : (m n : Bytes) (a w : ℕ) → a < 2 ^ 64 → number_at m a ≡ Some w → AreSame (length_of w) n m a → number_at n a ≡ Some w
number-same m n a w low e same =
    let is = (number_at-is m a w).0 e in
    (number_at-is n a w).1 (inside-same (length_of w) n m a low same ∙ is.0, load-same (length_of w) n m a low same ∙ is.1)

-- ---- its instruction

pub instruction-compressed : (w : ℕ) → is_word w ≡ false → w < 2 ^ 16 → instruction_of w ≡ compressed w
instruction-compressed w short low =
    let small : ltb w (2 ^ 16) ≡ true = grind (arith, nat_tests) in
    λ i. cond (short i) (decoded w) (cond (small i) (compressed w) None)

pub instruction-word : (w : ℕ) → is_word w ≡ true → instruction_of w ≡ decoded w
instruction-word w long = λ i. cond (long i) (decoded w) (cond (ltb w (2 ^ 16)) (compressed w) None)

pub instruction-none : (w : ℕ) → is_word w ≡ false → 2 ^ 16 ≤ w → instruction_of w ≡ None
instruction-none w short high =
    let large : ltb w (2 ^ 16) ≡ false = grind (arith, nat_tests) in
    λ i. cond (short i) (decoded w) (cond (large i) (compressed w) None)

-- ---- the number, where four bytes are present, where only two are, and where not even they are

halves : (b c d e : ℕ) → b + 256 * (c + 256 * (d + 256 * (e + 256 * 0))) ≡ b + 256 * (c + 256 * 0) + 65536 * (d + 256 * (e + 256 * 0))
halves b c d e = omega arith

low_half : (m : Bytes) (a : ℕ) → AreBytes m → load 2 m a ≡ load 4 m a % 65536
low_half m a bytes =
    let sum = halves (unwrap_or (m a) 0) (unwrap_or (m (after a)) 0) (unwrap_or (m (after (after a))) 0) (unwrap_or (m (after (after (after a)))) 0) in
    let small = load_small 2 m a bytes in
    omega (arith, sum, small)

-- a parcel of two bytes
pub short_number : (m : Bytes) (a : ℕ) → inside 2 m a ≡ true → is_word (load 2 m a) ≡ false → number_at m a ≡ Some (load 2 m a)
short_number m a two short = λ i. cond (two i) (cond (short i) (word_at m a) (Some (load 2 m a))) None

-- a parcel of two bytes, with two more behind it
pub first_number : (m : Bytes) (a : ℕ) → AreBytes m → inside 4 m a ≡ true → is_word (load 4 m a) ≡ false → number_at m a ≡ Some (load 4 m a % 65536)
first_number m a bytes four short = short_number m a (inside-two m a four) (parcel-word m a ∙ short) ∙ ap Some (low_half m a bytes)

-- a word
pub long_number : (m : Bytes) (a : ℕ) → inside 4 m a ≡ true → is_word (load 4 m a) ≡ true → number_at m a ≡ Some (load 4 m a)
long_number m a four long = (number_at-is m a (load 4 m a)).1 (by_length (λ n. (inside n m a ≡ true) × (load n m a ≡ load 4 m a)) (is_word (load 4 m a)) true long (four, refl))

-- a word, of which only the first half is present
pub half_number : (m : Bytes) (a : ℕ) → inside 4 m a ≡ false → is_word (load 2 m a) ≡ true → number_at m a ≡ None
half_number m a four long = either (inside 2 m a) _ (λ i. cond (long i) (cond (four i) (Some (load 4 m a)) None) (Some (load 2 m a)))
  where
    either : (t : Bool) (o : Option ℕ) → o ≡ None → cond t o None ≡ None
    either true o e = e
    either false o e = refl

pub no_number : (m : Bytes) (a : ℕ) → inside 2 m a ≡ false → number_at m a ≡ None
no_number m a two = λ i. cond (two i) (cond (is_word (load 2 m a)) (word_at m a) (Some (load 2 m a))) None

-- ---- what an instruction's number tells

-- a parcel of two bytes is below 2 ^ 16
pub instruction-small : (w : ℕ) (i : Instr) → instruction_of w ≡ Some i → is_word w ≡ false → w < 2 ^ 16
instruction-small w i e short = by_test (ltb w (2 ^ 16)) refl
  where
    by_test : (t : Bool) → ltb w (2 ^ 16) ≡ t → w < 2 ^ 16
    by_test true is = grind (arith, nat_tests)
    by_test false is = let high : 2 ^ 16 ≤ w = grind (arith, nat_tests) in absurd (let none = instruction-none w short high in cc)

pub instruction-named : (w : ℕ) (i : Instr) → w < 2 ^ 32 → instruction_of w ≡ Some i → NamesRegisters i
instruction-named w i low e = by_length (is_word w) refl
  where
    by_length : (t : Bool) → is_word w ≡ t → NamesRegisters i
    by_length true long = subst (λ o. IfSome o NamesRegisters) e (decoded_named w (instruction_of w) low (instruction-word w long))
    by_length false short = subst (λ o. IfSome o NamesRegisters) e (compressed_named w (instruction_of w) (instruction-compressed w short (instruction-small w i e short)))

-- ---- a number whose bytes don't go past the last address

room-some : (t : Bool) (o w : ℕ) → cond t (Some o) None ≡ Some w → (t ≡ true) × (o ≡ w)
room-some true o w e = (refl, cc)
room-some false o w e = absurd (cc)

room-in : (o : Option ℕ) (a w : ℕ) → option_and_then (λ v. cond (leb (a + length_of v) (2 ^ 64)) (Some v) None) o ≡ Some w → (o ≡ Some w) × (a + length_of w ≤ 2 ^ 64)
room-in None a w e = absurd (cc)
room-in (Some v) a w e =
    let p = room-some (leb (a + length_of v) (2 ^ 64)) v w e in
    (ap Some p.1, subst (λ x. a + length_of x ≤ 2 ^ 64) p.1 (leb-true (a + length_of v) (2 ^ 64) p.0))

pub number_in-is : (m : Bytes) (a w : ℕ) → (number_in m a ≡ Some w) ↔ ((number_at m a ≡ Some w) × (a + length_of w ≤ 2 ^ 64))
number_in-is m a w = (
  λ e. room-in (number_at m a) a w e,
  λ h.
      let room : leb (a + length_of w) (2 ^ 64) ≡ true = grind (arith, nat_tests) in
      let there = h.0 in
      (λ i. option_and_then (λ v. cond (leb (a + length_of v) (2 ^ 64)) (Some v) None) (there i)) ∙ (λ i. cond (room i) (Some w) None),
)
