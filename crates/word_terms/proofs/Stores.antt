-- What a store leaves and what it writes, byte by byte.
use Rattle.std.proofs.Common.{◌≡◌, ℕ, zero, suc, ◌+◌, ◌-◌, ◌*◌, ◌<◌, ◌≤◌, refl, sym, ap, ◌∙◌, arith, pow-add, ⊎_elim, cond, true, false, Bool, Option, Some, None}
use Rattle.std.specs.Prelude.{◌/◌, ◌%◌, ◌^◌, ◌&&◌, nat_eq, is_some, option_map}
use Rattle.std.proofs.Math.Nat.{div-div-eq-div-mul}
use Rattle.std.proofs.lemmas.Bool.{cases_eq}
use Rattle.std.proofs.lemmas.Bool.Decides.{nat_tests}
use Rattle.rv_words.specs.Bytes.{Bytes, after, inside, store}

is_some-mapped : (b : ℕ) (x : Option ℕ) → is_some (option_map (λ _. b) x) ≡ is_some x
is_some-mapped b None = refl
is_some-mapped b (Some x) = refl

is_some-cond : (t : Bool) (b : ℕ) (x : Option ℕ) → is_some (cond t (option_map (λ _. b) x) x) ≡ is_some x
is_some-cond true b x = is_some-mapped b x
is_some-cond false b x = refl

-- a store doesn't change which addresses are present
pub present-store : (n : ℕ) (m : Bytes) (a v q : ℕ) → is_some (store n m a v q) ≡ is_some (m q)
present-store zero m a v q = refl
present-store (suc n) m a v q = is_some-cond (nat_eq q a) (v % 256) (store n m (after a) (v / 256) q) ∙ present-store n m (after a) (v / 256) q

pub inside-store : (n k : ℕ) (m : Bytes) (a v b : ℕ) → inside k (store n m a v) b ≡ inside k m b
inside-store n zero m a v b = refl
inside-store n (suc k) m a v b = λ j. present-store n m a v b j && inside-store n k m a v (after b) j

-- how far q is above a, modulo 2 ^ 64
abbrev pub offset : ℕ → ℕ → ℕ
offset q a = (q + (2 ^ 64 - a)) % 2 ^ 64

mapped-same : (b : ℕ) (x y : Option ℕ) → is_some x ≡ is_some y → option_map (λ _. b) x ≡ option_map (λ _. b) y
mapped-same b None None e = refl
mapped-same b None (Some y) e = absurd (cc)
mapped-same b (Some x) None e = absurd (cc)
mapped-same b (Some x) (Some y) e = refl

test-at : (q a : ℕ) → q ≡ a → nat_eq q a ≡ true
test-at q a e = grind (arith, nat_tests)

test-apart : (q a : ℕ) → (q ≡ a → ⊥) → nat_eq q a ≡ false
test-apart q a e = grind (arith, nat_tests)

-- byte k of a word without its low byte
next-byte : (v k : ℕ) → v / 256 / 2 ^ (8 * k) ≡ v / 2 ^ (8 * (k + 1))
next-byte v k =
    let more : 8 * (k + 1) ≡ 8 * k + 8 = omega arith in
    let split : 256 * 2 ^ (8 * k) ≡ 2 ^ (8 * (k + 1)) = rw more (omega (arith, pow-add 2 (8 * k) 8)) in
    div-div-eq-div-mul v 256 (2 ^ (8 * k)) ∙ ap (λ d. v / d) split

-- what the store of one more byte puts at q, where that byte goes elsewhere
store-elsewhere : (n : ℕ) (m : Bytes) (a v q : ℕ) → (q ≡ a → ⊥) → store (suc n) m a v q ≡ store n m (after a) (v / 256) q
store-elsewhere n m a v q apart =
    let rest = store n m (after a) (v / 256) q in
    ap (λ t. cond t (option_map (λ _. v % 256) rest) rest) (test-apart q a apart)

-- a byte that is stored
pub store-at : (n : ℕ) (m : Bytes) (a v q : ℕ) → n ≤ 8 → a < 2 ^ 64 → q < 2 ^ 64 → offset q a < n
    → store n m a v q ≡ option_map (λ _. v / 2 ^ (8 * offset q a) % 256) (m q)
store-at zero m a v q few r s lt = absurd (omega arith)
store-at (suc n) m a v q few r s lt =
    ⊎_elim
    (λ (here : q ≡ a).
    let rest = store n m (after a) (v / 256) q in
    let none : offset q a ≡ 0 = omega arith in
    let low : v % 256 ≡ v / 2 ^ (8 * offset q a) % 256 = rw none (omega arith) in
    ap (λ t. cond t (option_map (λ _. v % 256) rest) rest) (test-at q a here)
    ∙ mapped-same (v % 256) rest (m q) (present-store n m (after a) (v / 256) q)
    ∙ (λ j. option_map (λ _. low j) (m q)))
    (λ apart.
    let k = offset q (after a) in
    let less : offset q a ≡ k + 1 = omega arith in
    let byte : v / 256 / 2 ^ (8 * k) % 256 ≡ v / 2 ^ (8 * offset q a) % 256 = ap (λ x. x % 256) (next-byte v k) ∙ (λ j. v / 2 ^ (8 * sym less j) % 256) in
    store-elsewhere n m a v q apart
    ∙ store-at n m (after a) (v / 256) q (omega arith) (omega arith) s (omega arith)
    ∙ (λ j. option_map (λ _. byte j) (m q)))
    (cases_eq q a)

-- a byte that is not
pub store-apart : (n : ℕ) (m : Bytes) (a v q : ℕ) → n ≤ 8 → a < 2 ^ 64 → q < 2 ^ 64 → n ≤ offset q a → store n m a v q ≡ m q
store-apart zero m a v q few r s le = refl
store-apart (suc n) m a v q few r s le =
    let apart : q ≡ a → ⊥ = λ same. omega arith in
    store-elsewhere n m a v q apart ∙ store-apart n m (after a) (v / 256) q (omega arith) (omega arith) s (omega arith)
