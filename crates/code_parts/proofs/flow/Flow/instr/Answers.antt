use Rattle.std.proofs.Common.{ap, ◌∙◌}
use Rattle.std.specs.Prelude.{slice_get}
use Rattle.code_parts.specs.Kept.{FlowOf}
use Rattle.code_parts.proofs.Contexts.{writes_register}
use Rattle.code_parts.proofs.flow.Flow.instr.Goals as goal

pub returns-clause-named : goal.returns-clause-named
returns-clause-named c = writes_register _ _ _ _ _ c.self.invariant _ c.self.view_is c.args.n c.instr.result c.requires (c.instr.ensures ∙ ap (λ (z : FlowOf). slice_get z.graph.instrs c.args.n) c.self.view_is)
