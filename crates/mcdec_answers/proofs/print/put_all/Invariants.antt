use Rattle.std.proofs.Common.{take, Ok}
use Rattle.mcdec_answers.specs.inner.Printing.{Prints, pieces_text}
use Rattle.mcdec_answers.proofs.print.put_all.Given as goal

abbrev pub invariant-loop-piece : goal.invariant-loop-piece
invariant-loop-piece g l =
    Prints (Ok tt) (pieces_text (take l.piece-index l.pieces)) (g.O.Sink.written l.fn.out) (g.O.Sink.written l.out) (g.O.Sink.faults l.fn.out) (g.O.Sink.faults l.out)
