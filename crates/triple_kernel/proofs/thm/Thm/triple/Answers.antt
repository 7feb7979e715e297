-- What a valid triple claims of finite parts is claimed of the group that the theorem is seen with.
use Rattle.std.proofs.Common.{subst}
use Rattle.tailrec_lang.specs.Tree.{group_tree}
use Rattle.tailrec_lang.specs.declared.group.Group.{Group}
use Rattle.triple_kernel.specs.Tree.{triple_tree}
use Rattle.triple_kernel.specs.declared.triple.Triple.{Triple}
use Rattle.triple_kernel.specs.Valid.{IsValidForFinite}
use Rattle.triple_kernel.proofs.ValidLemmas.{valid_finite}
use Rattle.triple_kernel.proofs.thm.Thm.triple.Goals as goal

pub returns-clause-finite : goal.returns-clause-finite
returns-clause-finite c =
    subst (λ (t : Group × Triple). IsValidForFinite (group_tree t.0) (triple_tree c.self.inside.triple)) c.self.view_is
    (valid_finite (group_tree c.self.inside.group.now) (triple_tree c.self.inside.triple) c.self.invariant)
