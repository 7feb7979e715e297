use Rattle.std.proofs.Common.{arith}
use Rattle.rv_decode.proofs.RegisterLemmas.{all_found}
use Rattle.code_parts.specs.Groups.{is_register_of}
use Rattle.code_parts.proofs.linked_uses.registers_of_all.Goals as goal

pub returns : goal.returns
returns c = all_found (is_register_of c.args.functions.now) c.loop-r.regs c.loop-r.r (omega (arith, c.loop-r-test.false, c.loop-r.auto.r-end)) c.loop-r.invariant
