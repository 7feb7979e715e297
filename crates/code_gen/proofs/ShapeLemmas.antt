-- Drawn code has the structure of loops within loops.
use Rattle.std.proofs.Common.{◌≡◌, ℕ, zero, suc, ◌+◌, ◌-◌, ◌*◌, ◌<◌, ◌≤◌, min, refl, arith}
use Rattle.code_gen.specs.Draws.{draw, next}
use Rattle.code_gen.specs.Pieces.{Kind, Adds, Mixes, Chooses, Repeats, kind, Drawn, Drawing, beginning, drawn_within, drawn}
use Rattle.code_gen.specs.Structure.{AreShaped}
use Rattle.code_gen.proofs.KindLemmas.{kind-chooses-size, kind-repeats-size, kind-repeats-depth}
use Rattle.code_gen.proofs.DrawnLemmas.{draw_below, body_within}
use Rattle.code_gen.proofs.SizeLemmas.{count, within-count}

-- a piece has at least one instruction
begins-some : (f : Drawing) (k : Kind) (n d s : ℕ) → 1 ≤ count d (beginning f k (suc n) d s).pieces
begins-some f Adds n d s = omega arith
begins-some f Mixes n d s = omega arith
begins-some f Chooses n d s = omega arith
begins-some f Repeats n d s = omega arith

within-some : (k u d s : ℕ) → u ≤ k → 1 ≤ u → 1 ≤ count d (drawn_within k u d s).pieces
within-some k zero d s h g = elim (none_below g) [ ]
  where
    none_below : 1 ≤ 0 → ⊥
    none_below h = omega (arith, h)
within-some zero (suc n) d s h g = elim (none_below n h) [ ]
  where
    none_below : (n : ℕ) → suc n ≤ 0 → ⊥
    none_below n h = omega (arith, h)
within-some (suc k) (suc n) d s h g = begins-some (drawn_within k) (kind (draw 4 s) (suc n) d) n d (next s)

-- what is known of code that is drawn for lesser sizes
record Lesser (f : Drawing) (n : ℕ) : Type 0 where
  shaped : (v e t : ℕ) → v ≤ n → e ≤ 4 → AreShaped e (f v e t).pieces
  some : (v e t : ℕ) → v ≤ n → 1 ≤ v → 1 ≤ count e (f v e t).pieces
  few : (v e t : ℕ) → v ≤ n → 3 * count e (f v e t).pieces ≤ 5 * v

begins-shaped : (f : Drawing) (k : Kind) (n d s : ℕ) → (k ≡ Chooses → 3 ≤ suc n) → (k ≡ Repeats → 3 ≤ suc n) → (k ≡ Repeats → d < 4)
    → suc n ≤ 600 → d ≤ 4 → Lesser f n → AreShaped d (beginning f k (suc n) d s).pieces
begins-shaped f Adds n d s a b c u h l = (u, l.shaped (suc n - 1) d s (omega arith) h)
begins-shaped f Mixes n d s a b c u h l = l.shaped (suc n - 1) d s (omega arith) h
begins-shaped f Chooses n d s a b c u h l = (u, l.shaped (suc n - 3) d s (omega arith) h)
begins-shaped f Repeats n d s a b c u h l =
    let t : ℕ = next s in
    let size : 3 ≤ suc n = b refl in
    let bound : ℕ = min (suc n - 2) 64 in
    let m : ℕ = 1 + draw bound t in
    let within : m ≤ suc n - 2 = body_within (suc n) t size in
    let little : draw bound t < bound = draw_below bound t (omega (arith, size)) in
    let turns : draw 4 s < 4 = draw_below 4 s (omega arith) in
    let body : Drawn = f m (d + 1) (next t) in
    let below : m ≤ n = omega (arith, within, size) in
    let few : 3 * count (d + 1) body.pieces ≤ 5 * m = l.few m (d + 1) (next t) below in (
      record {
        depth = c refl;
        some_turns = omega arith;
        few_turns = omega (arith, turns);
        some_code = l.some m (d + 1) (next t) below (omega arith);
        little_code = omega (arith, few, little);
      },
      l.shaped m (d + 1) (next t) below (omega (arith, c refl)),
      l.shaped (suc n - (m + 2)) d body.seed (omega arith) h,
    )

within-shaped : (k u d s : ℕ) → u ≤ k → u ≤ 600 → d ≤ 4 → AreShaped d (drawn_within k u d s).pieces
within-shaped zero u d s a b c = tt
within-shaped (suc k) zero d s a b c = tt
within-shaped (suc k) (suc n) d s a b c =
    begins-shaped (drawn_within k) (kind (draw 4 s) (suc n) d) n d (next s)
    (kind-chooses-size (draw 4 s) (suc n) d) (kind-repeats-size (draw 4 s) (suc n) d) (kind-repeats-depth (draw 4 s) (suc n) d)
    b c
    (record {
      shaped = λ v e t h g. within-shaped k v e t (omega (arith, a, h)) (omega (arith, b, h)) g;
      some = λ v e t h g. within-some k v e t (omega (arith, a, h)) g;
      few = λ v e t h. within-count k v e t (omega (arith, a, h));
    })

pub drawn-shaped : (u d s : ℕ) → u ≤ 600 → d ≤ 4 → AreShaped d (drawn u d s).pieces
unfolding drawn
drawn-shaped u d s a b = within-shaped u u d s (omega arith) a b
