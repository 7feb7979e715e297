-- A body, taken apart: its steps, which were taken, and the kinds of its end.
use Rattle.std.proofs.Common.{◌≡◌, ℕ, ◌+◌, ◌<◌, List, [], ◌∷◌, length, map, refl, sym, subst, ap, ◌∙◌, Option, Some, None}
use Rattle.std.specs.Prelude.{Box, slice_get}
use Rattle.std.specs.declared.alloc.Global.{Global}
use Rattle.std.specs.FinMap.{get}
use Rattle.std.proofs.lemmas.List.{length-map}
use Rattle.word_terms.specs.Tree.{cond_tree}
use Rattle.word_terms.specs.Scope.{CondInScope}
use Rattle.word_terms.specs.Value.{word_value, mem_value}
use Rattle.word_terms.specs.Environment.{Environment}
use Rattle.word_terms.specs.declared.term.Cond.{Cond}
use Rattle.tailrec_lang.specs.declared.args.Args.{Args}
use Rattle.tailrec_lang.specs.declared.group.Exit.{Exit}
use Rattle.tailrec_lang.specs.declared.group.Values.{Values}
use Rattle.tailrec_lang.specs.declared.group.Step.{Step}
use Rattle.tailrec_lang.specs.declared.group.Body.{Body}
use Rattle.tailrec_lang.specs.declared.group.End.{End}
use Rattle.tailrec_lang.specs.declared.group.End.TheVariants as end
use Rattle.tailrec_lang.specs.Tree.{BodyTree, StepTree, GroupTree, ValuesTree, Do, Branch, Call, Again, Leave, body_tree, exits_at, step_tree, values_tree, with_steps}
use Rattle.tailrec_lang.specs.inner.Tree.{arm_trees, end_tree}
use Rattle.tailrec_lang.specs.WellFormed.{ArmsAreWellFormed, BodyIsWellFormed, HasCounts, ValuesInScope}
use Rattle.tailrec_lang.specs.inner.WellFormed.{FitsExit}
use Rattle.tailrec_lang.specs.Eval.{arguments, arguments_of, needs, arm_needs}
use Rattle.tailrec_lang.specs.inner.Walk.{ResultsFit, steps_need}
use Rattle.tailrec_lang.proofs.Views.{view_body, view_branch, view_call, view_again, view_leave, needs_body}

pub scope_body : (g : GroupTree) (d : ℕ) (b : Body) (steps : List Step) (w m : ℕ) → steps ≡ b.steps → BodyIsWellFormed g d (body_tree b) w m
    → BodyIsWellFormed g d (with_steps (map step_tree steps) (end_tree b.end)) w m
scope_body g d b steps w m is h =
    subst (λ ss. BodyIsWellFormed g d (with_steps (map step_tree ss) (end_tree b.end)) w m) (sym is) (subst (λ t. BodyIsWellFormed g d t w m) (view_body b) h)

pub needs_steps_end : (b : Body) (steps : List Step) → steps ≡ b.steps → needs (body_tree b) ≡ steps_need (map step_tree steps) + needs (end_tree b.end)
needs_steps_end b steps is = needs_body b ∙ (λ j. steps_need (map step_tree (sym is j)) + needs (end_tree b.end))

-- ---- ends

pub scope_branch : (g : GroupTree) (d : ℕ) (x : End) (c : Cond) (a b : Box Body Global) (w m : ℕ) → x ≡ end.Branch c a b → BodyIsWellFormed g d (end_tree x) w m
    → CondInScope (cond_tree c) w m × BodyIsWellFormed g d (body_tree a.value) w m × BodyIsWellFormed g d (body_tree b.value) w m
scope_branch g d x c a b w m is h = subst (λ t. BodyIsWellFormed g d t w m) (ap end_tree is ∙ view_branch c a b) h

pub needs_branch : (x : End) (c : Cond) (a b : Box Body Global) → x ≡ end.Branch c a b → needs (end_tree x) ≡ needs (body_tree a.value) + needs (body_tree b.value)
needs_branch x c a b is = ap needs (ap end_tree is ∙ view_branch c a b)

pub scope_call : (g : GroupTree) (d : ℕ) (x : End) (def : ℕ) (v : Values) (arms : List Body) (w m : ℕ) → x ≡ end.Call def v arms → BodyIsWellFormed g d (end_tree x) w m
    → (def < d) × HasCounts (values_tree v) (length g.regs) g.mems × ValuesInScope (values_tree v) w m × ArmsAreWellFormed g d (exits_at g def) (arm_trees arms) w m
scope_call g d x def v arms w m is h = subst (λ t. BodyIsWellFormed g d t w m) (ap end_tree is ∙ view_call def v arms) h

pub needs_call : (x : End) (def : ℕ) (v : Values) (arms : List Body) → x ≡ end.Call def v arms → needs (end_tree x) ≡ arm_needs (arm_trees arms)
needs_call x def v arms is = ap needs (ap end_tree is ∙ view_call def v arms)

pub scope_again : (g : GroupTree) (d : ℕ) (x : End) (v : Values) (w m : ℕ) → x ≡ end.Again v → BodyIsWellFormed g d (end_tree x) w m
    → HasCounts (values_tree v) (length g.regs) g.mems × ValuesInScope (values_tree v) w m
scope_again g d x v w m is h = subst (λ t. BodyIsWellFormed g d t w m) (ap end_tree is ∙ view_again v) h

pub scope_leave : (g : GroupTree) (d : ℕ) (x : End) (exit : ℕ) (v : Values) (w m : ℕ) → x ≡ end.Leave exit v → BodyIsWellFormed g d (end_tree x) w m
    → FitsExit g (slice_get (exits_at g d) exit) (values_tree v) × ValuesInScope (values_tree v) w m
scope_leave g d x exit v w m is h = subst (λ t. BodyIsWellFormed g d t w m) (ap end_tree is ∙ view_leave exit v) h

-- ---- values

-- the counts of the values of terms are those of the terms
pub counts_of : (x : Args) (v : ValuesTree) (e : Environment) (words mems : ℕ) → arguments x ≡ arguments_of v e → HasCounts v words mems → (length x.words ≡ words) × (length x.mems ≡ mems)
counts_of x v e words mems same counts =
    let ws : length x.words ≡ length v.words = (λ j. length (same j).words) ∙ length-map v.words (λ t. word_value t e) in
    let ms : length x.mems ≡ length v.mems = sym (length-map x.mems get) ∙ (λ j. length (same j).mems) ∙ length-map v.mems (λ t. mem_value t e) in
    (ws ∙ counts.0, ms ∙ counts.1)

pub results_fit : (g : GroupTree) (exit : Option Exit) (x : Args) (v : ValuesTree) (e : Environment) → arguments x ≡ arguments_of v e → FitsExit g exit v → ResultsFit g exit x
results_fit g None x v e same fits = fits
results_fit g (Some k) x v e same fits = counts_of x v e _ g.mems same fits

-- ---- how many branches there are in a body, outside of arms

abbrev pub branches : BodyTree → ℕ
branches (Do s rest) = branches rest
branches (Branch c a b) = branches a + branches b + 1
branches (Call def v arms) = 0
branches (Again v) = 0
branches (Leave exit v) = 0

branches-steps : (ss : List StepTree) (rest : BodyTree) → branches (with_steps ss rest) ≡ branches rest
branches-steps [] rest = refl
branches-steps (s ∷ ss) rest = branches-steps ss rest

pub branches_branch : (body : Body) (c : Cond) (a b : Box Body Global) → body.end ≡ end.Branch c a b
    → branches (body_tree body) ≡ branches (body_tree a.value) + branches (body_tree b.value) + 1
branches_branch body c a b is =
    ap branches (view_body body) ∙ branches-steps (map step_tree body.steps) (end_tree body.end) ∙ ap branches (ap end_tree is ∙ view_branch c a b)
