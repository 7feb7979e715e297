use Rattle.std.proofs.Common.{refl, ap, ◌+◌, arith}
use Rattle.code_parts.specs.Kept.{flow_in}
use Rattle.code_parts.proofs.VariableMaps.{fresh_is, fresh_low}
use Rattle.code_parts.proofs.variables.fresh.Goals as goal

pub returns-clause-is : goal.returns-clause-is
returns-clause-is c =
    fresh_is (flow_in c.args.flow.now) _ c.regs-regs.result.now _ c.args.words c.args.mems _ _ c.numbered.ensures.words c.numbered.ensures.memory c.regs-regs.ensures.are refl
    (ap (λ k. c.args.mems + k) c.mems-count.ensures.is)

pub invariant_of-result : goal.invariant_of-result
invariant_of-result c = record {
  low = fresh_low _ c.regs-regs.result.now _ c.args.words c.args.mems _ _ c.numbered.ensures.words c.numbered.ensures.memory refl (omega arith);
}
