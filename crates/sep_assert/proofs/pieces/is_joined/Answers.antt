use Rattle.std.proofs.Common.{arith}
use Rattle.sep_assert.proofs.PieceTests.{joined-within}
use Rattle.sep_assert.proofs.pieces.is_joined.Goals as goal

pub returns : goal.returns
returns c = λ e. rw (← c.from-at.ensures, ← c.as_slice-bytes.ensures)
    (joined-within c.from-at.result c.as_slice-bytes.result.now c.split_at.result.0.now c.split_at.result.1.now c.split_at-2.result.0.now c.split_at-2.result.1.now
    c.count_below-before.result c.count_below-within.result c.args.first.now c.args.second.now
    c.count_below-before.ensures.within c.count_below-within.ensures.within c.split_at.ensures.front c.split_at.ensures.back c.split_at-2.ensures.front c.split_at-2.ensures.back
    (λ some. let low = c.count_below-before.ensures.below some in omega (arith, low, c.from-start.ensures))
    (λ some. let high = c.count_below-within.ensures.rest some in omega (arith, high, c.from-start.ensures, c.len.ensures))
    (c.lie_in.ensures c.if-not-lie_in.false) (c.lie_in-2.ensures c.if-not-lie_in-2.false) (c.lie_in-3.ensures e))
