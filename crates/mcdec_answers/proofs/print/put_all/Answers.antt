use Rattle.mcdec_answers.proofs.Prints.{prints-exit, prints-more, prints-broken}
use Rattle.mcdec_answers.proofs.print.put_all.Goals as goal

pub returns-in_err-put_piece : goal.returns-in_err-put_piece
returns-in_err-put_piece g c =
    prints-exit _ c.in_err-put_piece.field-0.0 _ _ _ _ _ c.from_residual.ensures.1
    (prints-broken c.args.pieces.now c.loop-piece.piece-index _ c.loop-piece-test.true _ _ _ _ _ _ c.loop-piece.invariant c.in_err-put_piece.field-0.0 c.in_err-put_piece.ensures)

pub loop-piece-preserved : goal.loop-piece-preserved
loop-piece-preserved g c = prints-more c.args.pieces.now c.loop-piece.piece-index _ c.loop-piece-test.true _ _ _ _ _ _ c.loop-piece.invariant c.in_ok-put_piece.ensures
