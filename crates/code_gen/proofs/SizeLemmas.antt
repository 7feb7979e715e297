-- How many instructions drawn code has.
use Rattle.std.proofs.Common.{◌≡◌, ℕ, zero, suc, ◌+◌, ◌-◌, ◌*◌, ◌≤◌, min, ◌++◌, length, refl, arith}
use Rattle.std.proofs.lemmas.List.{length-append}
use Rattle.code_gen.specs.Draws.{draw, next}
use Rattle.code_gen.specs.Pieces.{Pieces, Repeat, Kind, Adds, Mixes, Chooses, Repeats, kind, Drawn, Drawing, beginning, drawn_within, drawn}
use Rattle.code_gen.specs.Program.{code, loop_end}
use Rattle.code_gen.proofs.KindLemmas.{kind-chooses-size, kind-repeats-size}
use Rattle.code_gen.proofs.DrawnLemmas.{body_within}

-- the number of instructions at a depth
abbrev pub count : ℕ → Pieces → ℕ
count d p = length (code d p)

-- a loop has three instructions beside its body and what comes after
pub repeat-count : (d n : ℕ) (body rest : Pieces) → count d (Repeat n body rest) ≡ 3 + count (d + 1) body + count d rest
repeat-count d n body rest =
    let k : ℕ = count (d + 1) body in
    let e : length ((code (d + 1) body ++ loop_end d k) ++ code d rest) ≡ length (code (d + 1) body ++ loop_end d k) + count d rest =
    length-append (code (d + 1) body ++ loop_end d k) (code d rest) in
    let f : length (code (d + 1) body ++ loop_end d k) ≡ k + 2 = length-append (code (d + 1) body) (loop_end d k) in
    omega (arith, e, f)

begins-count : (f : Drawing) (k : Kind) (n d s : ℕ) → (k ≡ Chooses → 3 ≤ suc n) → (k ≡ Repeats → 3 ≤ suc n)
    → ((v e t : ℕ) → v ≤ n → 3 * count e (f v e t).pieces ≤ 5 * v) → 3 * count d (beginning f k (suc n) d s).pieces ≤ 5 * suc n
begins-count f Adds n d s a b h = omega (arith, h (suc n - 1) d s (omega arith))
begins-count f Mixes n d s a b h = omega (arith, h (suc n - 1) d s (omega arith))
begins-count f Chooses n d s a b h = omega (arith, a refl, h (suc n - 3) d s (omega arith))
begins-count f Repeats n d s a b h =
    let t : ℕ = next s in
    let m : ℕ = 1 + draw (min (suc n - 2) 64) t in
    let within : m ≤ suc n - 2 = body_within (suc n) t (b refl) in
    let size : 3 ≤ suc n = b refl in
    let body : Drawn = f m (d + 1) (next t) in
    let rest : Drawn = f (suc n - (m + 2)) d body.seed in
    let of_body : 3 * count (d + 1) body.pieces ≤ 5 * m = h m (d + 1) (next t) (omega (arith, within, size)) in
    let of_rest : 3 * count d rest.pieces ≤ 5 * (suc n - (m + 2)) = h (suc n - (m + 2)) d body.seed (omega arith) in
    rw (repeat-count d (1 + draw 4 s) body.pieces rest.pieces) (omega (arith, of_body, of_rest, within, size))

pub within-count : (k u d s : ℕ) → u ≤ k → 3 * count d (drawn_within k u d s).pieces ≤ 5 * u
within-count zero zero d s h = omega arith
within-count zero (suc n) d s h = omega (arith, h)
within-count (suc k) zero d s h = omega arith
within-count (suc k) (suc n) d s h =
    begins-count (drawn_within k) (kind (draw 4 s) (suc n) d) n d (next s)
    (kind-chooses-size (draw 4 s) (suc n) d) (kind-repeats-size (draw 4 s) (suc n) d)
    (λ v e t g. within-count k v e t (omega (arith, g, h)))

-- three instructions for each five of the size
pub drawn-count : (u d s : ℕ) → 3 * length (code d (drawn u d s).pieces) ≤ 5 * u
unfolding drawn
drawn-count u d s = within-count u u d s (omega arith)
