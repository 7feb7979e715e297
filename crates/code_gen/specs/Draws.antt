-- Numbers drawn from a seed, by a linear congruence (D. E. Knuth, The Art of Computer Programming, volume 2, section 3.2.1).
use Rattle.std.specs.Prelude.{ℕ, ◌+◌, ◌*◌, ◌/◌, ◌%◌, ◌^◌}

-- the seed after this one
abbrev pub next : ℕ → ℕ
next s = (6364136223846793005 * s + 1442695040888963407) % 2 ^ 64

-- the number below n that is drawn with this seed: the upper bits of the next one decide
abbrev pub draw : ℕ → ℕ → ℕ
draw n s = next s / 2 ^ 33 % n
