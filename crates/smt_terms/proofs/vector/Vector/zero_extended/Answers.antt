use Rattle.std.proofs.Common.{◌∙◌}
use Rattle.smt_terms.proofs.Vectors.{low_wider}
use Rattle.smt_terms.proofs.vector.Vector.zero_extended.Goals as goal

pub returns-clause-number : goal.returns-clause-number
returns-clause-number c = c.new.ensures.number ∙ low_wider _ _ _ c.args.self.below
