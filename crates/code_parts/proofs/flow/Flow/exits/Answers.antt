use Rattle.std.proofs.Common.{ap, ◌∙◌}
use Rattle.loop_forest.specs.Forest.{exits_of}
use Rattle.code_parts.specs.Kept.{FlowOf}
use Rattle.code_parts.proofs.Contexts.{exits_within}
use Rattle.code_parts.proofs.flow.Flow.exits.Goals as goal

pub returns-clause-nodes : goal.returns-clause-nodes
returns-clause-nodes c = exits_within _ _ _ _ _ c.self.invariant _ c.self.view_is c.args.l c.exits.result.now c.requires (c.exits.ensures ∙ ap (λ (z : FlowOf). exits_of z.forest c.args.l) c.self.view_is)
