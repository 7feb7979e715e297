use Rattle.std.proofs.Common.{take, Ok}
use Rattle.std.specs.Prelude.{flat_map}
use Rattle.mcdec_answers.specs.inner.Printing.{Prints}
use Rattle.mcdec_answers.proofs.Prints.{byte_text}
use Rattle.mcdec_answers.proofs.print.put_bytes.Given as goal

abbrev pub invariant-loop-byte : goal.invariant-loop-byte
invariant-loop-byte g l =
    Prints (Ok tt) (flat_map byte_text (take l.byte-index l.bytes)) (g.O.Sink.written l.fn.out) (g.O.Sink.written l.out) (g.O.Sink.faults l.fn.out) (g.O.Sink.faults l.out)
