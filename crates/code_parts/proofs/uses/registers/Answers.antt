use Rattle.std.proofs.Common.{arith}
use Rattle.std.specs.List.{list_any}
use Rattle.rv_decode.proofs.RegisterLemmas.{all_found}
use Rattle.instr_axioms.specs.Axiom.{is_own}
use Rattle.code_parts.proofs.uses.registers.Goals as goal

pub returns : goal.returns
returns c = all_found (λ r. list_any (λ i. is_own i r) c.args.g.now.instrs) c.loop-r.regs c.loop-r.r (omega (arith, c.loop-r-test.false, c.loop-r.auto.r-end)) c.loop-r.invariant
