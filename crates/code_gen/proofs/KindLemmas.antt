-- Which piece comes first.
use Rattle.std.proofs.Common.{◌≡◌, ◌≢◌, ℕ, ◌==◌, ◌<◌, ◌≤◌, nat_le, nat_lt, Bool, true, false, ◌&&◌, if◌then◌else◌, refl, arith}
use Rattle.code_gen.specs.Pieces.{Kind, Adds, Mixes, Chooses, Repeats, kind}

-- a kind by three tests, one after the other
abbrev pub by_tests : Bool → Bool → Bool → Kind
by_tests a b c = if a then Chooses else (if b then Repeats else (if c then Mixes else Adds))

chooses-test : (a b c : Bool) → by_tests a b c ≡ Chooses → a ≡ true
chooses-test true b c e = refl
chooses-test false true c e = cc
chooses-test false false true e = cc
chooses-test false false false e = cc

repeats-test : (a b c : Bool) → by_tests a b c ≡ Repeats → b ≡ true
repeats-test true b c e = cc
repeats-test false true c e = refl
repeats-test false false true e = cc
repeats-test false false false e = cc

not_true : (b : Bool) → (b ≡ true → ⊥) → b ≡ false
not_true true h = elim (h refl) [ ]
not_true false h = refl

-- a choice and a loop are drawn for code of a size from 3 on
pub kind-chooses-size : (r u d : ℕ) → kind r u d ≡ Chooses → 3 ≤ u
kind-chooses-size r u d e =
    let t : ((r == 2) && nat_le 3 u) ≡ true = chooses-test ((r == 2) && nat_le 3 u) ((r == 3) && nat_le 3 u && nat_lt d 4) (r == 1) e in
    grind (arith, t)

pub kind-repeats-size : (r u d : ℕ) → kind r u d ≡ Repeats → 3 ≤ u
kind-repeats-size r u d e =
    let t : ((r == 3) && nat_le 3 u && nat_lt d 4) ≡ true = repeats-test ((r == 2) && nat_le 3 u) ((r == 3) && nat_le 3 u && nat_lt d 4) (r == 1) e in
    grind (arith, t)

-- and a loop at a depth below 4
pub kind-repeats-depth : (r u d : ℕ) → kind r u d ≡ Repeats → d < 4
kind-repeats-depth r u d e =
    let t : ((r == 3) && nat_le 3 u && nat_lt d 4) ≡ true = repeats-test ((r == 2) && nat_le 3 u) ((r == 3) && nat_le 3 u && nat_lt d 4) (r == 1) e in
    grind (arith, t)

pub kind-chooses : (r u d : ℕ) → r ≡ 2 → 3 ≤ u → kind r u d ≡ Chooses
kind-chooses r u d e h =
    let t : ((r == 2) && nat_le 3 u) ≡ true = grind (arith, e, h) in
    rw t

pub kind-repeats : (r u d : ℕ) → r ≡ 3 → 3 ≤ u → d < 4 → kind r u d ≡ Repeats
kind-repeats r u d e h k =
    let f : ((r == 2) && nat_le 3 u) ≡ false = grind (arith, e, h) in
    let t : ((r == 3) && nat_le 3 u && nat_lt d 4) ≡ true = grind (arith, e, h, k) in
    rw (f, t)

pub kind-mixes : (r u d : ℕ) → r ≡ 1 → kind r u d ≡ Mixes
kind-mixes r u d e =
    let f : ((r == 2) && nat_le 3 u) ≡ false = grind (arith, e) in
    let g : ((r == 3) && nat_le 3 u && nat_lt d 4) ≡ false = grind (arith, e) in
    let t : (r == 1) ≡ true = grind (arith, e) in
    rw (f, g, t)

pub kind-adds : (r u d : ℕ) → (r ≡ 2 → 3 ≤ u → ⊥) → (r ≡ 3 → 3 ≤ u → d < 4 → ⊥) → r ≢ 1 → kind r u d ≡ Adds
kind-adds r u d a b c =
    let f : ((r == 2) && nat_le 3 u) ≡ false = not_true ((r == 2) && nat_le 3 u) (λ t. a (grind (arith, t)) (grind (arith, t))) in
    let g : ((r == 3) && nat_le 3 u && nat_lt d 4) ≡ false =
    not_true ((r == 3) && nat_le 3 u && nat_lt d 4) (λ t. b (grind (arith, t)) (grind (arith, t)) (grind (arith, t))) in
    let h : (r == 1) ≡ false = not_true (r == 1) (λ t. c (grind (arith, t))) in
    rw (f, g, h)
