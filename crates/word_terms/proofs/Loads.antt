-- A load, built from its last byte on.
use Rattle.std.proofs.Common.{◌≡◌, ℕ, ◌+◌, ◌*◌, ◌-◌, ◌<◌, ◌≤◌, refl, ap, arith, add-one, unwrap_or, pow-add}
use Rattle.std.specs.Prelude.{◌%◌, ◌^◌}
use Rattle.std.proofs.Math.Pow.{pow_mono}
use Rattle.rv_words.specs.Bytes.{Bytes, load}

load-one_more : (m : Bytes) (i x : ℕ) → load (i + 1) m x ≡ unwrap_or (m x) 0 + 256 * load i m ((x + 1) % 2 ^ 64)
load-one_more m i x = rw add-one refl

-- one more byte in front of i of the n bytes from a on
pub load-more : (m : Bytes) (a n i b number : ℕ) → i < n → n ≤ 8 → a < 2 ^ 64 → b ≡ unwrap_or (m ((a + (n - 1 - i)) % 2 ^ 64)) 0
    → number ≡ load i m ((a + (n - i)) % 2 ^ 64) → number * 256 + b ≡ load (i + 1) m ((a + (n - (i + 1))) % 2 ^ 64)
load-more m a n i b number lt few r e f =
    let place : ((a + (n - (i + 1))) % 2 ^ 64 + 1) % 2 ^ 64 ≡ (a + (n - i)) % 2 ^ 64 = omega arith in
    let same : a + (n - (i + 1)) ≡ a + (n - 1 - i) = omega arith in
    let first = ap (λ x. unwrap_or (m (x % 2 ^ 64)) 0) same in
    let rest = ap (load i m) place in
    let step = load-one_more m i ((a + (n - (i + 1))) % 2 ^ 64) in
    omega (arith, e, f, first, rest, step)

pub fits-more : (i b number : ℕ) → b < 256 → number < 2 ^ (8 * i) → number * 256 + b < 2 ^ (8 * (i + 1))
fits-more i b number r f =
    let e : 8 * (i + 1) ≡ 8 * i + 8 = omega arith in
    rw e (omega (arith, pow-add 2 (8 * i) 8))

pub fits-all : (n i x : ℕ) → i < n → n ≤ 8 → x < 2 ^ (8 * (i + 1)) → x < 2 ^ 64
fits-all n i x lt few f = let le : 8 * (i + 1) ≤ 64 = omega arith in omega (arith, pow_mono le)
