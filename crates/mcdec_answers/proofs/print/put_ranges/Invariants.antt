use Rattle.std.proofs.Common.{take, Ok}
use Rattle.std.specs.Prelude.{flat_map}
use Rattle.mcdec_answers.specs.Printed.{range_line}
use Rattle.mcdec_answers.specs.inner.Printing.{Prints}
use Rattle.mcdec_answers.proofs.print.put_ranges.Given as goal

abbrev pub invariant-loop-range : goal.invariant-loop-range
invariant-loop-range g l =
    Prints (Ok tt) (flat_map (range_line l.fn.memory) (take l.range-index l.ranges)) (g.O.Sink.written l.fn.out) (g.O.Sink.written l.out) (g.O.Sink.faults l.fn.out) (g.O.Sink.faults l.out)
