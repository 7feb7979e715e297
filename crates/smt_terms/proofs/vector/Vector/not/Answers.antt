use Rattle.std.proofs.Common.{◌∙◌}
use Rattle.smt_terms.proofs.Vectors.{low_not}
use Rattle.smt_terms.proofs.vector.Vector.not.Goals as goal

pub returns-clause-number : goal.returns-clause-number
returns-clause-number c = c.new.ensures.number ∙ low_not _ _ c.args.self.wide c.args.self.below
