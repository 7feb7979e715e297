-- A number has one spelling in each base.
use Rattle.std.proofs.Common.{◌≡◌, ℕ, zero, suc, ◌/◌, ◌%◌, ◌^◌, ◌<◌, ◌≤◌, Bool, true, false, ◌&&◌, cond, eqb, ltb, List, [], ◌∷◌, ◌++◌, take, drop, codes, Option, Some, None, true≢false, refl, sym, ap, subst, ◌∙◌, arith}
use Rattle.std.specs.List.{AllByRecursion}
use Rattle.std.specs.Str.{bytes_eq}
use Rattle.std.specs.Str.Parse.{digits_value}
use Rattle.std.specs.Fmt.{digits, digits_onto, digit_glyph}
use Rattle.std.proofs.Math.Nat.{pow-le-pow_left}
use Rattle.std.proofs.lemmas.Bool.{ltb-true, lt-ltb}
use Rattle.std.proofs.lemmas.Slice.Eq.{bytes_eq-Decides}
use Rattle.std.proofs.lemmas.Fmt.{digits_is_IsNumeral}
use Rattle.std.proofs.lemmas.List.{take-append-drop}
use Rattle.mc_text.specs.declared.number.Base.{Base}
use Rattle.mc_text.specs.declared.number.Base.TheVariants.{Decimal, Hexadecimal}
use Rattle.mc_text.specs.Number.{hex, IsNumber, Spelled, number_of, hex_of}
use Rattle.mc_text.specs.inner.Number.{base_number}

-- ---- the digits that a number is written with

-- a test that each digit below the base passes
abbrev pub Passes : (ℕ → Bool) → ℕ → Type 0
Passes p base = (d : ℕ) → d < base → p (digit_glyph false d) ≡ true

abbrev pub Pass : (ℕ → Bool) → List ℕ → Type 0
Pass p ds = AllByRecursion (λ b. p b ≡ true) ds

digits_onto-pass : (p : ℕ → Bool) (base k n : ℕ) (acc : List ℕ) → 0 < base → Passes p base → Pass p acc → Pass p (digits_onto k base false n acc)
digits_onto-pass p base zero n acc some h all = all
digits_onto-pass p base (suc k) n acc some h all =
    let first : p (digit_glyph false (n % base)) ≡ true = h (n % base) (omega arith) in
    choose (eqb (n / base) 0) (digit_glyph false (n % base) ∷ acc) (digits_onto k base false (n / base) (digit_glyph false (n % base) ∷ acc)) (first, all)
    (digits_onto-pass p base k (n / base) (digit_glyph false (n % base) ∷ acc) some h (first, all))
  where
    choose : (b : Bool) (xs ys : List ℕ) → Pass p xs → Pass p ys → Pass p (cond b xs ys)
    choose true xs ys hx hy = hx
    choose false xs ys hx hy = hy

pub digits-pass : (p : ℕ → Bool) (base n : ℕ) → 0 < base → Passes p base → Pass p (digits base false n)
unfolding digits
digits-pass p base n some h = digits_onto-pass p base 64 n [] some h tt

-- ---- from digits to the number, and back

chosen : (small same : Bool) (v n : ℕ) → cond (small && same) (Some v) None ≡ Some n → (small ≡ true) × (same ≡ true) × (v ≡ n)
chosen true true v n e = (refl, refl, cc)
chosen true false v n e = absurd cc
chosen false same v n e = absurd cc

pub number_of-takes : (base : ℕ) (ds : List ℕ) (n : ℕ) → number_of base ds ≡ Some n → (ds ≡ digits base false n) × (n < 2 ^ 64)
unfolding number_of
number_of-takes base ds n e =
    let v = digits_value base ds in
    let c = chosen (ltb v (2 ^ 64)) (bytes_eq (digits base false v) ds) v n e in
    (sym ((bytes_eq-Decides (digits base false v) ds).0 c.1) ∙ ap (digits base false) c.2, subst (λ (k : ℕ). k < 2 ^ 64) c.2 (ltb-true _ _ c.0))

pub wide : (base n : ℕ) → 2 ≤ base → n < 2 ^ 64 → n < base ^ 64
wide base n low lt = omega (arith, pow-le-pow_left low 64)

pub number_of-again : (base n : ℕ) → 2 ≤ base → base ≤ 16 → n < 2 ^ 64 → number_of base (digits base false n) ≡ Some n
unfolding number_of
number_of-again base n low high lt =
    let h = digits_is_IsNumeral base false low high n (wide base n low lt) in
    rw (h.1, lt-ltb n (2 ^ 64) lt, (bytes_eq-Decides (digits base false n) (digits base false n)).1 refl) refl

pub base_number-low : (b : Base) → 2 ≤ base_number b
base_number-low Decimal = omega arith
base_number-low Hexadecimal = omega arith

pub base_number-high : (b : Base) → base_number b ≤ 16
base_number-high Decimal = omega arith
base_number-high Hexadecimal = omega arith

-- ---- the reader of digits

module _ (base : Base) where
  pub number-found : (ds : List ℕ) (n : ℕ) → n < 2 ^ 64 → digits (base_number base) false n ≡ ds → Some n ≡ number_of (base_number base) ds
  number-found ds n lt e = sym (subst (λ (xs : List ℕ). number_of (base_number base) xs ≡ Some n) e (number_of-again (base_number base) n (base_number-low base) (base_number-high base) lt))

  none-unless : (ds : List ℕ) (o : Option ℕ) → number_of (base_number base) ds ≡ o → ((n : ℕ) → n < 2 ^ 64 → ds ≡ digits (base_number base) false n → ⊥) → None ≡ o
  none-unless ds None e h = refl
  none-unless ds (Some n) e h = let t = number_of-takes (base_number base) ds n e in absurd (h n t.1 t.0)

  pub number-none : (ds : List ℕ) → ((n : ℕ) → n < 2 ^ 64 → ds ≡ digits (base_number base) false n → ⊥) → None ≡ number_of (base_number base) ds
  number-none ds h = none-unless ds (number_of (base_number base) ds) refl h

none-found : (n : ℕ) → None ≡ Some n → ⊥
none-found n e = cc

-- ---- what an atom spells, or that it spells nothing

pub number-spelled : (base : ℕ) (ds : List ℕ) (o : Option ℕ) → 2 ≤ base → base ≤ 16 → o ≡ number_of base ds → Spelled IsNumber (digits base false) ds o
number-spelled base ds (Some n) low high e = let t = number_of-takes base ds n (sym e) in (t.1, t.0)
number-spelled base ds None low high e = λ n lt is. none-found n (e ∙ ap (number_of base) is ∙ number_of-again base n low high lt)

pub without-0x : (text : List ℕ) → bytes_eq (take 2 text) (codes "0x") ≡ false → Spelled {X = ℕ} IsNumber hex text None
without-0x text f = λ n lt is. true≢false (sym (ap (λ (s : List ℕ). bytes_eq (take 2 s) (codes "0x")) is) ∙ f)

pub behind-0x : (text : List ℕ) (o : Option ℕ) → bytes_eq (take 2 text) (codes "0x") ≡ true → o ≡ number_of 16 (drop 2 text) → Spelled IsNumber hex text o
behind-0x text (Some n) t e =
    let k = number_of-takes 16 (drop 2 text) n (sym e) in
    (k.1, sym (take-append-drop 2 text) ∙ (λ i. (bytes_eq-Decides (take 2 text) (codes "0x")).0 t i ++ k.0 i))
behind-0x text None t e =
    λ n lt is. none-found n (e ∙ ap (λ (s : List ℕ). number_of 16 (drop 2 s)) is ∙ number_of-again 16 n (omega arith) (omega arith) lt)

pub hex_of-spelled : (text : List ℕ) (o : Option ℕ) → o ≡ hex_of text → Spelled IsNumber hex text o
unfolding hex_of
hex_of-spelled text o e = choose (bytes_eq (take 2 text) (codes "0x")) refl e
  where
    choose : (b : Bool) → bytes_eq (take 2 text) (codes "0x") ≡ b → o ≡ cond b (number_of 16 (drop 2 text)) None → Spelled IsNumber hex text o
    choose true t e = behind-0x text o t e
    choose false f e = subst (Spelled IsNumber hex text) (sym e) (without-0x text f)
