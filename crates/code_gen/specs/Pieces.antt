-- Code that is drawn, as pieces one after another. A loop is a piece with pieces in it.
use Rattle.std.specs.Prelude.{ℕ, zero, suc, ◌+◌, ◌-◌, ◌==◌, nat_le, nat_lt, ◌&&◌, if◌then◌else◌, min}
use Rattle.code_gen.specs.Draws.{next, draw}

pub data Pieces : Type 0 where
  -- no more
  Done : Pieces
  -- u is added to x10
  Add : (u : ℕ) (rest : Pieces) → Pieces
  -- x10 is combined with x11
  Mix : (rest : Pieces) → Pieces
  -- where x10 is odd, u is added to it, else it is combined with x11
  Choose : (u : ℕ) (rest : Pieces) → Pieces
  -- a body n times
  Repeat : (n : ℕ) (body rest : Pieces) → Pieces

-- which piece comes first in code of size u at depth d, where r of four was drawn
pub data Kind : Type 0 where
  Adds : Kind
  Mixes : Kind
  Chooses : Kind
  Repeats : Kind

abbrev pub kind : ℕ → ℕ → ℕ → Kind
kind r u d =
    if (r == 2) && nat_le 3 u then Chooses
    else (if (r == 3) && nat_le 3 u && nat_lt d 4 then Repeats
    else (if r == 1 then Mixes
    else Adds))

-- pieces, and the seed after them
pub record Drawn : Type 0 where
  pub pieces : Pieces
  pub seed : ℕ

-- what is drawn for a size and a depth from a seed
abbrev pub Drawing : Type 0
Drawing = (u d s : ℕ) → Drawn

-- a piece in front of what is drawn
abbrev pub in_front : (Pieces → Pieces) → Drawn → Drawn
in_front piece rest = record { pieces = piece rest.pieces; seed = rest.seed }

-- a loop of n turns, where the body and what comes after are drawn in this manner: the body takes up at most 64
abbrev pub repeating : Drawing → ℕ → Drawing
repeating drawn n u d s =
    let m = 1 + draw (min (u - 2) 64) s in
    let body = drawn m (d + 1) (next s) in
    in_front (Repeat n body.pieces) (drawn (u - (m + 2)) d body.seed)

-- a piece of that kind, and what comes after
abbrev pub beginning : Drawing → Kind → Drawing
beginning drawn Adds u d s = in_front (Add u) (drawn (u - 1) d s)
beginning drawn Mixes u d s = in_front Mix (drawn (u - 1) d s)
beginning drawn Chooses u d s = in_front (Choose u) (drawn (u - 3) d s)
beginning drawn Repeats u d s = repeating drawn (1 + draw 4 s) u d (next s)

-- code of a size, at a depth of loops, from a seed. Each piece takes up some of the size, so that k pieces are enough
-- where k is the size
abbrev pub drawn_within : ℕ → Drawing
drawn_within zero u d s = record { pieces = Done; seed = s }
drawn_within (suc k) zero d s = record { pieces = Done; seed = s }
drawn_within (suc k) (suc n) d s = beginning (drawn_within k) (kind (draw 4 s) (suc n) d) (suc n) d (next s)

unfoldable pub drawn : Drawing
drawn u d s = drawn_within u u d s
