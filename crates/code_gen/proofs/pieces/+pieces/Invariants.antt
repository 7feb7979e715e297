use Rattle.std.proofs.Common.{◌≡◌, ◌≤◌, ◌+◌, ◌*◌, ◌-◌}
use Rattle.code_gen.specs.Pieces.{drawn}
use Rattle.code_gen.specs.inner.Written.{with_drawn}
use Rattle.code_gen.proofs.pieces.+pieces.Given as goal

abbrev pub decreases-add_pieces : goal.decreases-add_pieces
decreases-add_pieces l = 3 * (4 - l.depth) + 2

abbrev pub decreases-add_piece : goal.decreases-add_piece
decreases-add_piece l = 3 * (4 - l.depth) + 1

abbrev pub decreases-add_loop : goal.decreases-add_loop
decreases-add_loop l = 3 * (4 - l.depth)

abbrev pub invariant-add_pieces-loop-left : goal.invariant-add_pieces-loop-left
invariant-add_pieces-loop-left l = record {
  size : l.left ≤ 600;
  words : with_drawn l.words l.depth (drawn l.left l.depth l.draws.seed) ≡ with_drawn l.fn.words l.depth (drawn l.fn.size l.depth l.fn.draws.seed);
  seed : (drawn l.left l.depth l.draws.seed).seed ≡ (drawn l.fn.size l.depth l.fn.draws.seed).seed;
}

abbrev pub decreases-add_pieces-loop-left : goal.decreases-add_pieces-loop-left
decreases-add_pieces-loop-left l = l.left
