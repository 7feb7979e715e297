-- How many steps drawn code takes at most.
use Rattle.std.proofs.Common.{◌≡◌, ℕ, zero, suc, ◌+◌, ◌-◌, ◌*◌, ◌^◌, ◌<◌, ◌≤◌, min, refl, ap, ◌∙◌, arith}
use Rattle.std.proofs.Math.Nat.{mul-add, mul_assoc, mul-le-mul_right, pow-suc}
use Rattle.code_gen.specs.Draws.{draw, next}
use Rattle.code_gen.specs.Pieces.{Kind, Adds, Mixes, Chooses, Repeats, kind, Drawn, Drawing, beginning, drawn_within, drawn}
use Rattle.code_gen.specs.Structure.{most_steps}
use Rattle.code_gen.proofs.KindLemmas.{kind-chooses-size, kind-repeats-size, kind-repeats-depth}
use Rattle.code_gen.proofs.DrawnLemmas.{draw_below, body_within}

-- the steps for each of the size, where so many loops may stand in one another
abbrev rate : ℕ → ℕ
rate zero = 2
rate (suc j) = 4 * rate j

rate-is : (j : ℕ) → rate j ≡ 2 * 4 ^ j
rate-is zero = refl
rate-is (suc j) = rw (pow-suc 4 j) (omega (arith, rate-is j))

two : (j : ℕ) → 2 ≤ rate j
two zero = omega arith
two (suc j) = omega (arith, two j)

-- a part of the size
part : (r n m : ℕ) → m ≤ n → r * n ≡ r * (n - m) + r * m
part r n m h =
    let e : n ≡ (n - m) + m = omega (arith, h) in
    ap (λ (x : ℕ). r * x) e ∙ mul-add r (n - m) m

-- a loop, whose body takes q for each of its size, and what comes after
repeat-bound : (turns steps within rest inner q total : ℕ) → turns ≤ 4 → within ≤ inner
    → total ≡ rest + 4 * (inner + q * 2) → 2 ≤ q → steps ≤ rest → 1 + turns * (within + 2) + steps ≤ total
repeat-bound turns steps within rest inner q total t w e h s =
    let times : turns * (within + 2) ≤ 4 * (within + 2) = mul-le-mul_right (within + 2) t in
    omega (arith, times, w, e, h, s)

begins-steps : (f : Drawing) (k : Kind) (n d s j : ℕ) → (k ≡ Chooses → 3 ≤ suc n) → (k ≡ Repeats → 3 ≤ suc n)
    → (k ≡ Repeats → (i : ℕ) × (j ≡ suc i))
    → ((v e t : ℕ) → v ≤ n → most_steps (f v d t).pieces ≤ rate j * v)
    → ((i v t : ℕ) → j ≡ suc i → v ≤ n → most_steps (f v (d + 1) t).pieces ≤ rate i * v)
    → most_steps (beginning f k (suc n) d s).pieces ≤ rate j * suc n
begins-steps f Adds n d s j a b c h g = omega (arith, h (suc n - 1) d s (omega arith), part (rate j) (suc n) 1 (omega arith), two j)
begins-steps f Mixes n d s j a b c h g = omega (arith, h (suc n - 1) d s (omega arith), part (rate j) (suc n) 1 (omega arith), two j)
begins-steps f Chooses n d s j a b c h g = omega (arith, h (suc n - 3) d s (omega arith), part (rate j) (suc n) 3 (a refl), two j)
begins-steps f Repeats n d s j a b c h g =
    let i : ℕ = (c refl).0 in
    let is : j ≡ suc i = (c refl).1 in
    let t : ℕ = next s in
    let bound : ℕ = min (suc n - 2) 64 in
    let size : 3 ≤ suc n = b refl in
    let m : ℕ = 1 + draw bound t in
    let fits : m ≤ suc n - 2 = body_within (suc n) t size in
    let turns : draw 4 s < 4 = draw_below 4 s (omega arith) in
    let body : Drawn = f m (d + 1) (next t) in
    let rest : Drawn = f (suc n - (m + 2)) d body.seed in
    let of_body : most_steps body.pieces ≤ rate i * m = g i m (next t) is (omega (arith, fits, size)) in
    let of_rest : most_steps rest.pieces ≤ rate j * (suc n - (m + 2)) = h (suc n - (m + 2)) d body.seed (omega arith) in
    let parted : rate j * suc n ≡ rate j * (suc n - (m + 2)) + rate j * (m + 2) = part (rate j) (suc n) (m + 2) (omega (arith, fits, size)) in
    let inner : rate i * (m + 2) ≡ rate i * m + rate i * 2 = mul-add (rate i) m 2 in
    let outer : rate j * (m + 2) ≡ 4 * (rate i * (m + 2)) = ap (λ (x : ℕ). rate x * (m + 2)) is ∙ mul_assoc 4 (rate i) (m + 2) in
    repeat-bound (1 + draw 4 s) (most_steps rest.pieces) (most_steps body.pieces) (rate j * (suc n - (m + 2))) (rate i * m) (rate i) (rate j * suc n)
    (omega (arith, turns)) of_body (omega (arith, parted, inner, outer)) (two i) of_rest

within-steps : (k u d s j : ℕ) → u ≤ k → d + j ≡ 4 → most_steps (drawn_within k u d s).pieces ≤ rate j * u
within-steps zero u d s j a b = omega arith
within-steps (suc k) zero d s j a b = omega arith
within-steps (suc k) (suc n) d s j a b =
    begins-steps (drawn_within k) (kind (draw 4 s) (suc n) d) n d (next s) j
    (kind-chooses-size (draw 4 s) (suc n) d) (kind-repeats-size (draw 4 s) (suc n) d)
    (λ e. let deep : d < 4 = kind-repeats-depth (draw 4 s) (suc n) d e in (j - 1, omega (arith, b, deep)))
    (λ v e t h. within-steps k v d t j (omega (arith, a, h)) b)
    (λ i v t e h. within-steps k v (d + 1) t i (omega (arith, a, h)) (omega (arith, b, e)))

pub drawn-steps : (u d s : ℕ) → d ≤ 4 → most_steps (drawn u d s).pieces ≤ 2 * 4 ^ (4 - d) * u
unfolding drawn
drawn-steps u d s h =
    let le : most_steps (drawn_within u u d s).pieces ≤ rate (4 - d) * u = within-steps u u d s (4 - d) (omega arith) (omega (arith, h)) in
    rw (rate-is (4 - d)) at le
