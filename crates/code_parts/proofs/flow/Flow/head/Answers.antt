use Rattle.std.proofs.Common.{ap, ◌∙◌}
use Rattle.loop_forest.specs.Forest.{head_of}
use Rattle.code_parts.specs.Kept.{FlowOf}
use Rattle.code_parts.proofs.Contexts.{head_within}
use Rattle.code_parts.proofs.flow.Flow.head.Goals as goal

pub returns-clause-node : goal.returns-clause-node
returns-clause-node c = head_within _ _ _ _ _ c.self.invariant _ c.self.view_is c.args.l c.head.result c.requires (c.head.ensures ∙ ap (λ (z : FlowOf). head_of z.forest c.args.l) c.self.view_is)
