use Rattle.code_parts.proofs.Contexts.{graph_is}
use Rattle.code_parts.proofs.flow.Flow.law_of_graphs.Goals as goal

pub returns : goal.returns
returns c = graph_is _ _ _ _ _ c.self.invariant _ c.self.view_is
