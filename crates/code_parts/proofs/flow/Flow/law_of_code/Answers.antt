use Rattle.code_parts.proofs.Contexts.{code_stands}
use Rattle.code_parts.proofs.flow.Flow.law_of_code.Goals as goal

pub returns : goal.returns
returns c = code_stands _ _ _ _ _ c.self.invariant _ c.self.view_is
