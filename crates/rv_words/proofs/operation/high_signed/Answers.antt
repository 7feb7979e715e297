-- The product of two signed words fits 128 bits, and its high word 64.
use Rattle.std.proofs.Common.{◌≡◌, ℕ, ◌*◌, ◌^◌, ◌≤◌, ℤ, pos, negsuc, ◌*ℤ◌, unsigned_abs, FitsSigned, to_z, of_z, w64, refl, ◌∙◌, sym, ap, subst, arith}
use Rattle.std.specs.Int.{w128}
use Rattle.std.specs.Int.Signed.{shr_z}
use Rattle.std.proofs.lemmas.Int.{ints, to_z-of_z, unsigned_abs-mul}
use Rattle.std.proofs.lemmas.Nat.{mul-le}
use Rattle.rv_words.specs.Operation.{word_of, floor_of}
use Rattle.rv_words.proofs.operation.high_signed.Goals as goal

-- the high word of a product, as the code computes it
abbrev high : ℤ → ℕ
high p = of_z w64 (to_z w64 (of_z w64 (to_z w128 (of_z w128 (shr_z (to_z w128 (of_z w128 p)) (2 ^ 64))))))

abs_below : (z : ℤ) → FitsSigned w64 z → unsigned_abs z ≤ 2 ^ 63
abs_below (pos n) f = omega (arith, f.sfits)
abs_below (negsuc n) f = omega (arith, f.sfits)

bits_are_word : (z : ℤ) → FitsSigned w64 z → of_z w64 z ≡ word_of z
bits_are_word (pos n) f = omega (arith, f.sfits)
bits_are_word (negsuc n) f = omega (arith, f.sfits)

fits_128 : (p : ℤ) → unsigned_abs p ≤ 2 ^ 126 → FitsSigned w128 p
fits_128 (pos n) h = record { sfits = omega arith }
fits_128 (negsuc n) h = record { sfits = omega arith }

high_fits : (p : ℤ) → unsigned_abs p ≤ 2 ^ 126 → (FitsSigned w128 (shr_z p (2 ^ 64))) × FitsSigned w64 (shr_z p (2 ^ 64))
high_fits (pos n) h = (record { sfits = omega arith }, record { sfits = omega arith })
high_fits (negsuc n) h = (record { sfits = omega arith }, record { sfits = omega arith })

floor_is : (p : ℤ) → shr_z p (2 ^ 64) ≡ floor_of p (2 ^ 64)
floor_is (pos n) = refl
floor_is (negsuc n) = refl

is_floor : (p : ℤ) → unsigned_abs p ≤ 2 ^ 126 → high p ≡ word_of (floor_of p (2 ^ 64))
is_floor p h =
    let f = high_fits p h in
    (λ i. of_z w64 (to_z w64 (of_z w64 (to_z w128 (of_z w128 (shr_z (to_z-of_z w128 p (fits_128 p h) i) (2 ^ 64)))))))
    ∙ (λ i. of_z w64 (to_z w64 (of_z w64 (to_z-of_z w128 (shr_z p (2 ^ 64)) f.0 i))))
    ∙ ap (of_z w64) (to_z-of_z w64 (shr_z p (2 ^ 64)) f.1)
    ∙ bits_are_word (shr_z p (2 ^ 64)) f.1
    ∙ ap word_of (floor_is p)

pub returns : goal.returns
returns c =
    let a = c.args.a in
    let b = c.args.b in
    let same_a : c.from.result ≡ a = c.from.ensures ∙ to_z-of_z w64 a c.ranges.a in
    let same_b : c.from-2.result ≡ b = c.from-2.ensures ∙ to_z-of_z w64 b c.ranges.b in
    let small : unsigned_abs (a *ℤ b) ≤ 2 ^ 63 * 2 ^ 63 = subst (λ n. n ≤ 2 ^ 63 * 2 ^ 63) (sym (unsigned_abs-mul a b)) (mul-le _ _ _ _ (abs_below a c.ranges.a) (abs_below b c.ranges.b)) in
    let wide_a : to_z w128 (of_z w128 c.from.result) ≡ a = omega (arith, ints) in
    let wide_b : to_z w128 (of_z w128 c.from-2.result) ≡ b = omega (arith, ints) in
    c.cast_unsigned.ensures ∙ (λ i. high (wide_a i *ℤ wide_b i)) ∙ is_floor (a *ℤ b) small
