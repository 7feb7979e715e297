use Rattle.code_parts.proofs.Contexts.{region_is}
use Rattle.code_parts.proofs.flow.Flow.law_of_regions.Goals as goal

pub returns : goal.returns
returns c = region_is _ _ _ _ _ c.self.invariant _ c.self.view_is c.args.p c.requires
