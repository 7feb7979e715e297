use Rattle.std.proofs.Common.{ℕ, ◌<◌, ◌^◌, ◌∙◌, sym, subst}
use Rattle.smt_terms.proofs.Vectors.{low_difference}
use Rattle.smt_terms.proofs.vector.Vector.sub.Goals as goal

pub returns-clause-number : goal.returns-clause-number
returns-clause-number c = c.new.ensures.number ∙ low_difference _ _ _ c.args.self.wide (subst (λ (k : ℕ). c.args.b.number < 2 ^ k) (sym c.requires) c.args.b.below)
