use Rattle.std.proofs.Common.{◌≡◌, ap, ◌∙◌}
use Rattle.tailrec_lang.specs.Tree.{GroupTree, group_tree}
use Rattle.sep_assert.specs.Part.{◌⊕◌, code_part, part_of}
use Rattle.triple_kernel.specs.Tree.{TripleTree, triple_tree}
use Rattle.triple_kernel.specs.Valid.{Valid}
use Rattle.triple_kernel.proofs.Reaching.{reaches-none}
use Rattle.call_tests.proofs.tests.theorems.unmoved.Goals as goal

-- no step is made
unmoved-valid : (g : GroupTree) (t : TripleTree) → t.pre ≡ t.post → Valid g t
unmoved-valid g t same = record {
  runs = λ e _ rest s is. (s, reaches-none s, is ∙ ap (λ p. part_of p e ⊕ (code_part t.code ⊕ rest)) same);
}

pub from_valid-requires : goal.from_valid-requires
from_valid-requires c =
    unmoved-valid (group_tree c.args.g.now) (triple_tree c.args.triple) (c.same_assertion.ensures.0 c.if-same_assertion.true)
