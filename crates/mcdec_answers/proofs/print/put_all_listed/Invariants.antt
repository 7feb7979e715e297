use Rattle.std.proofs.Common.{take, Ok}
use Rattle.std.specs.Prelude.{flat_map}
use Rattle.mcdec_answers.specs.Printed.{listed_line}
use Rattle.mcdec_answers.specs.inner.Printing.{Prints}
use Rattle.mcdec_answers.proofs.print.put_all_listed.Given as goal

abbrev pub invariant-loop-listed : goal.invariant-loop-listed
invariant-loop-listed g l =
    Prints (Ok tt) (flat_map (listed_line l.form) (take l.listed-index l.all)) (g.O.Sink.written l.fn.out) (g.O.Sink.written l.out) (g.O.Sink.faults l.fn.out) (g.O.Sink.faults l.out)
