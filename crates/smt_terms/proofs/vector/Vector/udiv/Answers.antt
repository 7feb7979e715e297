use Rattle.std.proofs.Common.{◌∙◌}
use Rattle.smt_terms.proofs.Vectors.{low_ones}
use Rattle.smt_terms.proofs.vector.Vector.udiv.Goals as goal

pub returns-then-b-eq0-clause-number : goal.returns-then-b-eq0-clause-number
returns-then-b-eq0-clause-number c = rw c.if-b-eq0.true (c.new.ensures.number ∙ low_ones _ c.args.self.wide)
