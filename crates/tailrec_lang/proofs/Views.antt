-- The trees of bodies and ends, one equation for each variant.
use Rattle.std.proofs.Common.{◌≡◌, ℕ, ◌+◌, List, map, rules, ap, ◌∙◌}
use Rattle.std.specs.Prelude.{Box}
use Rattle.std.specs.declared.alloc.Global.{Global}
use Rattle.word_terms.specs.Tree.{cond_tree}
use Rattle.word_terms.specs.declared.term.Cond.{Cond}
use Rattle.tailrec_lang.specs.declared.group.Values.{Values}
use Rattle.tailrec_lang.specs.declared.group.Body.{Body}
use Rattle.tailrec_lang.specs.declared.group.End.{the_lemmas}
use Rattle.tailrec_lang.specs.declared.group.End.TheVariants as end
use Rattle.tailrec_lang.specs.Tree.{Branch, Call, Again, Leave, body_tree, step_tree, values_tree, with_steps}
use Rattle.tailrec_lang.specs.inner.Tree.{arm_trees, end_tree}
use Rattle.tailrec_lang.specs.Eval.{needs}
use Rattle.tailrec_lang.specs.inner.Walk.{steps_need}
use Rattle.tailrec_lang.proofs.Steps.{needs-steps}

pub view_branch : (c : Cond) (a b : Box Body Global) → end_tree (end.Branch c a b) ≡ Branch (cond_tree c) (body_tree a.value) (body_tree b.value)
view_branch c a b = search (rules, the_lemmas)

pub view_call : (def : ℕ) (v : Values) (arms : List Body) → end_tree (end.Call def v arms) ≡ Call def (values_tree v) (arm_trees arms)
view_call def v arms = search (rules, the_lemmas)

pub view_again : (v : Values) → end_tree (end.Again v) ≡ Again (values_tree v)
view_again v = search (rules, the_lemmas)

pub view_leave : (exit : ℕ) (v : Values) → end_tree (end.Leave exit v) ≡ Leave exit (values_tree v)
view_leave exit v = search (rules, the_lemmas)

pub view_body : (b : Body) → body_tree b ≡ with_steps (map step_tree b.steps) (end_tree b.end)
view_body b = search (rules, the_lemmas)

pub needs_body : (b : Body) → needs (body_tree b) ≡ steps_need (map step_tree b.steps) + needs (end_tree b.end)
needs_body b = ap needs (view_body b) ∙ needs-steps (map step_tree b.steps) (end_tree b.end)
