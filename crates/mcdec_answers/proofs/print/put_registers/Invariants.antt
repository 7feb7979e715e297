use Rattle.std.proofs.Common.{length, take, Ok}
use Rattle.mcdec_answers.specs.Printed.{register_lines}
use Rattle.mcdec_answers.specs.inner.Printing.{Prints}
use Rattle.mcdec_answers.proofs.print.put_registers.Given as goal

abbrev pub invariant-loop-register : goal.invariant-loop-register
invariant-loop-register g l =
    Prints (Ok tt) (register_lines (take (length l.yielded) l.registers) (take (length l.yielded) l.words)) (g.O.Sink.written l.fn.out) (g.O.Sink.written l.out) (g.O.Sink.faults l.fn.out) (g.O.Sink.faults l.out)
