-- Accesses byte by byte.
use Rattle.std.proofs.Common.{◌≡◌, ℕ, zero, suc, ◌+◌, ◌-◌, ◌<◌, [], ◌∷◌, codes, refl, arith}
use Rattle.smt_terms.specs.Expression.{Atom, apply, literal}
use Rattle.smt_terms.specs.Helpers.{two, extract}
use Rattle.smt_terms.specs.Accesses.{next_address, is_present, byte_at, loaded_bytes, all_present, after_store}
use Rattle.smt_terms.specs.inner.Sizes.{address, shifted}

pub address_none : (k : ℕ) → k ≡ 0 → Atom (codes "a") ≡ address k
address_none zero e = refl
address_none (suc k) e = absurd (omega (arith, e))

pub address_some : (k : ℕ) → 0 < k → next_address (address (k - 1)) ≡ address k
address_some zero lt = absurd (omega (arith, lt))
address_some (suc k) lt = let p : suc k - 1 ≡ k = omega arith in λ j. next_address (address (p j))

pub shifted_none : (k : ℕ) → k ≡ 0 → Atom (codes "v") ≡ shifted k
shifted_none zero e = refl
shifted_none (suc k) e = absurd (omega (arith, e))

pub shifted_some : (k : ℕ) → 0 < k → two (codes "bvlshr") (shifted (k - 1)) (literal (codes "64") (codes "8")) ≡ shifted k
shifted_some zero lt = absurd (omega (arith, lt))
shifted_some (suc k) lt = let p : suc k - 1 ≡ k = omega arith in λ j. two (codes "bvlshr") (shifted (p j)) (literal (codes "64") (codes "8"))

pub bytes_none : (n k : ℕ) → n ≡ 0 → byte_at (address k) ≡ loaded_bytes n (address k)
bytes_none zero k e = refl
bytes_none (suc n) k e = absurd (omega (arith, e))

pub bytes_some : (n k : ℕ) → 0 < n → two (codes "concat") (loaded_bytes (n - 1) (address (k + 1))) (byte_at (address k)) ≡ loaded_bytes n (address k)
bytes_some zero k lt = absurd (omega (arith, lt))
bytes_some (suc n) k lt =
    let p : suc n - 1 ≡ n = omega arith in
    let s : k + 1 ≡ suc k = omega arith in
    λ j. two (codes "concat") (loaded_bytes (p j) (address (s j))) (byte_at (address k))

pub present_none : (n k : ℕ) → n ≡ 0 → Atom (codes "true") ≡ all_present n (address k)
present_none zero k e = refl
present_none (suc n) k e = absurd (omega (arith, e))

pub present_some : (n k : ℕ) → 0 < n → two (codes "and") (is_present (address k)) (all_present (n - 1) (address (k + 1))) ≡ all_present n (address k)
present_some zero k lt = absurd (omega (arith, lt))
present_some (suc n) k lt =
    let p : suc n - 1 ≡ n = omega arith in
    let s : k + 1 ≡ suc k = omega arith in
    λ j. two (codes "and") (is_present (address k)) (all_present (p j) (address (s j)))

pub stored_none : (n k : ℕ) → n ≡ 0 → Atom (codes "m") ≡ after_store n (address k) (shifted k)
stored_none zero k e = refl
stored_none (suc n) k e = absurd (omega (arith, e))

pub stored_some : (n k : ℕ) → 0 < n
    → apply (codes "store") (after_store (n - 1) (address (k + 1)) (shifted (k + 1)) ∷ address k ∷ extract (codes "7") (codes "0") (shifted k) ∷ []) ≡ after_store n (address k) (shifted k)
stored_some zero k lt = absurd (omega (arith, lt))
stored_some (suc n) k lt =
    let p : suc n - 1 ≡ n = omega arith in
    let s : k + 1 ≡ suc k = omega arith in
    λ j. apply (codes "store") (after_store (p j) (address (s j)) (shifted (s j)) ∷ address k ∷ extract (codes "7") (codes "0") (shifted k) ∷ [])
