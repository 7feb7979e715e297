use Rattle.std.proofs.Common.{◌≤◌, length}
use Rattle.mcdec_commands.proofs.SetUp.{HavePlaced}
use Rattle.mcdec_commands.proofs.run.place_pieces.Given as goal

abbrev pub invariant-loop-i : goal.invariant-loop-i
invariant-loop-i l = (l.i ≤ length l.pieces) × HavePlaced l.pieces l.fn.state l.state l.i

abbrev pub decreases-loop-i : goal.decreases-loop-i
decreases-loop-i l = l.i
