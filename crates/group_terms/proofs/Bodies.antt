-- Bodies are their steps and their ends.
use Rattle.std.proofs.Common.{◌≡◌, map, sym, ◌∙◌}
use Rattle.tailrec_lang.specs.declared.group.Body.{Body}
use Rattle.tailrec_lang.specs.Tree.{body_tree, step_tree, with_steps}
use Rattle.tailrec_lang.specs.inner.Tree.{end_tree}
use Rattle.tailrec_lang.proofs.Views.{view_body}

pub body_made : (a b : Body) → map step_tree a.steps ≡ map step_tree b.steps → end_tree a.end ≡ end_tree b.end → body_tree a ≡ body_tree b
body_made a b s e = view_body a ∙ (λ j. with_steps (s j) (e j)) ∙ sym (view_body b)
