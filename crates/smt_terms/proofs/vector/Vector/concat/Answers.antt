use Rattle.std.proofs.Common.{◌∙◌}
use Rattle.smt_terms.proofs.Vectors.{concat_fits, concat_low}
use Rattle.smt_terms.proofs.vector.Vector.concat.Goals as goal

pub overflow_add-self-2 : goal.overflow_add-self-2
overflow_add-self-2 c = concat_fits _ _ _ _ c.requires c.args.self.below c.args.b.below

pub returns-clause-number : goal.returns-clause-number
returns-clause-number c = c.new.ensures.number ∙ concat_low _ _ _ _ c.requires c.args.self.below c.args.b.below
