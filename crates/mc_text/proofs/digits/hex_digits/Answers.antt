use Rattle.std.proofs.Common.{arith}
use Rattle.mc_text.proofs.HexDigits.{starts_writing, is_written, is_writing}
use Rattle.mc_text.proofs.digits.hex_digits.Goals as goal

pub loop-start-init : goal.loop-start-init
loop-start-init c = starts_writing c.args.n c.args.into.now (omega arith) (omega arith)

pub returns-then-rest-eq0-clause-written : goal.returns-then-rest-eq0-clause-written
returns-then-rest-eq0-clause-written c =
    is_written c.args.n c.loop-start.rest c.loop-start.start c.hex_digit.result c.loop-start.into c.loop-start-test.true c.hex_digit.ensures c.loop-start.invariant c.if-rest-eq0.true

pub loop-start-preserved : goal.loop-start-preserved
loop-start-preserved c =
    is_writing c.args.n c.loop-start.rest c.loop-start.start c.hex_digit.result c.loop-start.into c.loop-start-test.true c.hex_digit.ensures c.loop-start.invariant c.if-rest-eq0.false
