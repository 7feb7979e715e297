use Rattle.std.proofs.Common.{◌∙◌}
use Rattle.smt_terms.proofs.Vectors.{low_or}
use Rattle.smt_terms.proofs.vector.Vector.or.Goals as goal

pub returns-clause-number : goal.returns-clause-number
returns-clause-number c = c.new.ensures.number ∙ low_or _ _ _ _ c.requires c.args.self.below c.args.b.below
