-- The parcel or word at an address, from its bytes.
use Rattle.std.proofs.Common.{◌≡◌, ℕ, ◌+◌, ◌^◌, ◌<◌, ◌≤◌, Bool, true, false, cond, leb, ltb, Option, Some, None, refl, sym, ◌∙◌, arith}
use Rattle.std.proofs.lemmas.Bool.Decides.{nat_tests}
use Rattle.std.specs.Option.{option_and_then}
use Rattle.rv_words.specs.Bytes.{Bytes, after, inside, load}
use Rattle.elf_image.specs.Image.{word_in}
use Rattle.rvc.specs.Number.{is_word, length_of, number_at, number_in}
use Rattle.rvc.proofs.NumberLemmas.{no_number, parcel-word, short_number}

pub no_parcel : (m : Bytes) (a : ℕ) → inside 2 m a ≡ false → number_in m a ≡ None
no_parcel m a two = let none = no_number m a two in λ i. option_and_then (λ v. cond (leb (a + length_of v) (2 ^ 64)) (Some v) None) (none i)

long_enough : (w : ℕ) → 2 ≤ length_of w
long_enough w = by_test (is_word w)
  where
    by_test : (t : Bool) → 2 ≤ cond t 4 2
    by_test true = omega arith
    by_test false = omega arith

-- nothing begins at the last address
pub none_last : (m : Bytes) (a : ℕ) → a + 1 ≡ 2 ^ 64 → number_in m a ≡ None
none_last m a last = by_some (number_at m a)
  where
    by_some : (o : Option ℕ) → option_and_then (λ v. cond (leb (a + length_of v) (2 ^ 64)) (Some v) None) o ≡ None
    by_some None = refl
    by_some (Some v) =
        let long = long_enough v in
        let over : leb (a + length_of v) (2 ^ 64) ≡ false = grind (arith, nat_tests) in
        λ i. cond (over i) (Some v) None

pub parcel_alone : (m : Bytes) (a : ℕ) → a + 1 < 2 ^ 64 → inside 2 m a ≡ true → is_word (load 2 m a) ≡ false → number_in m a ≡ Some (load 2 m a)
parcel_alone m a low two short =
    let there = short_number m a two short in
    let fits : leb (a + 2) (2 ^ 64) ≡ true = grind (arith, nat_tests) in
    (λ i. option_and_then (λ v. cond (leb (a + length_of v) (2 ^ 64)) (Some v) None) (there i))
    ∙ (λ i. cond (leb (a + cond (short i) 4 2) (2 ^ 64)) (Some (load 2 m a)) None) ∙ (λ i. cond (fits i) (Some (load 2 m a)) None)

neither : (t : Bool) → let none : Option ℕ = None in none ≡ cond t none none
neither true = refl
neither false = refl

-- a word's low bytes are its parcel
pub whole_word : (m : Bytes) (a : ℕ) → inside 2 m a ≡ true → is_word (load 2 m a) ≡ true → number_in m a ≡ word_in m a
whole_word m a two long = whole (inside 4 m a) refl
  where
    whole : (t : Bool) → inside 4 m a ≡ t → number_in m a ≡ word_in m a
    whole true all =
        let there : number_at m a ≡ Some (load 4 m a) = λ i. cond (two i) (cond (long i) (cond (all i) (Some (load 4 m a)) None) (Some (load 2 m a))) None in
        let word : is_word (load 4 m a) ≡ true = sym (parcel-word m a) ∙ long in
        let same : leb (a + 4) (2 ^ 64) ≡ ltb (a + 3) (2 ^ 64) = grind (arith, nat_tests) in
        (λ i. option_and_then (λ v. cond (leb (a + length_of v) (2 ^ 64)) (Some v) None) (there i))
        ∙ (λ i. cond (leb (a + cond (word i) 4 2) (2 ^ 64)) (Some (load 4 m a)) None)
        ∙ (λ i. cond (same i) (Some (load 4 m a)) None) ∙ (λ i. cond (ltb (a + 3) (2 ^ 64)) (cond (sym all i) (Some (load 4 m a)) None) None)
    whole false all =
        let there : number_at m a ≡ None = λ i. cond (two i) (cond (long i) (cond (all i) (Some (load 4 m a)) None) (Some (load 2 m a))) None in
        (λ i. option_and_then (λ v. cond (leb (a + length_of v) (2 ^ 64)) (Some v) None) (there i)) ∙ neither (ltb (a + 3) (2 ^ 64)) ∙ (λ i. cond (ltb (a + 3) (2 ^ 64)) (cond (sym all i) (Some (load 4 m a)) None) None)

-- two bytes side by side
pub beside : (a : ℕ) → a + 1 < 2 ^ 64 → after a ≡ a + 1
beside a h = omega arith
