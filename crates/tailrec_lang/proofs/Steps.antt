-- The rest of a body's steps.
use Rattle.std.proofs.Common.{◌≡◌, ℕ, suc, ◌+◌, ◌<◌, ◌≤◌, List, [], ◌∷◌, length, get_or, map, drop, sym, ap, ◌∙◌, arith, subst, cond, true, false}
use Rattle.std.proofs.Math.Seq.{drop-cons}
use Rattle.std.proofs.Math.ListN.{drop_of_length-le}
use Rattle.word_terms.specs.Environment.{Environment}
use Rattle.tailrec_lang.specs.declared.group.Step.{Step}
use Rattle.tailrec_lang.specs.WellFormed.{StepInScope, BodyIsWellFormed, words_after, mems_after}
use Rattle.tailrec_lang.specs.Eval.{Meaning, NeedFalse, body_ending, after_step, step_holds, step_needs, needs}
use Rattle.tailrec_lang.specs.inner.Walk.{steps_need}
use Rattle.tailrec_lang.specs.Tree.{BodyTree, StepTree, GroupTree, step_tree, with_steps}

-- the steps from step i on
abbrev pub steps_from : List Step → ℕ → List StepTree
steps_from steps i = map step_tree (drop i steps)

-- they are that step and those from the next one on
pub steps_from-step : (steps : List Step) (i : ℕ) (s : Step) → i < length steps → s ≡ get_or steps i s → steps_from steps i ≡ step_tree s ∷ steps_from steps (i + 1)
steps_from-step steps i s lt is =
    let next : suc i ≡ i + 1 = omega arith in
    (λ j. map step_tree (drop-cons steps i s lt j)) ∙ (λ j. step_tree (sym is j) ∷ steps_from steps (next j))

-- after the last there are none
pub steps_from-end : (steps : List Step) (i : ℕ) → length steps ≤ i → steps_from steps i ≡ []
steps_from-end steps i le = λ j. map step_tree (drop_of_length-le steps le j)

pub needs-steps : (ss : List StepTree) (rest : BodyTree) → needs (with_steps ss rest) ≡ steps_need ss + needs rest
needs-steps [] rest = omega arith
needs-steps (s ∷ ss) rest = omega (arith, needs-steps ss rest)

-- a body in scope from its step i on has that step in scope, and the rest after it
pub scope-step : (g : GroupTree) (d : ℕ) (steps : List Step) (i : ℕ) (s : Step) (rest : BodyTree) (w m : ℕ) → i < length steps → s ≡ get_or steps i s
    → BodyIsWellFormed g d (with_steps (steps_from steps i) rest) w m
    → StepInScope (step_tree s) w m × BodyIsWellFormed g d (with_steps (steps_from steps (i + 1)) rest) (words_after (step_tree s) w) (mems_after (step_tree s) m)
scope-step g d steps i s rest w m lt is = subst (λ ss. BodyIsWellFormed g d (with_steps ss rest) w m) (steps_from-step steps i s lt is)

pub needs-step : (steps : List Step) (i : ℕ) (s : Step) → i < length steps → s ≡ get_or steps i s → steps_need (steps_from steps i) ≡ step_needs (step_tree s) + steps_need (steps_from steps (i + 1))
needs-step steps i s lt is = ap steps_need (steps_from-step steps i s lt is)

-- a body ends as the body after its step i does after that step, where that holds
pub ending-step : (call : Meaning) (d : ℕ) (steps : List Step) (i : ℕ) (s : Step) (rest : BodyTree) (e : Environment) (o left : ℕ) → i < length steps → s ≡ get_or steps i s
    → step_holds (step_tree s) e ≡ true
    → body_ending call d (with_steps (steps_from steps i) rest) e o left ≡ body_ending call d (with_steps (steps_from steps (i + 1)) rest) (after_step (step_tree s) e) (o + step_needs (step_tree s)) left
ending-step call d steps i s rest e o left lt is holds =
    (λ j. body_ending call d (with_steps (steps_from-step steps i s lt is j) rest) e o left)
    ∙ (λ j. cond (holds j) (body_ending call d (with_steps (steps_from steps (i + 1)) rest) (after_step (step_tree s) e) (o + step_needs (step_tree s)) left) (NeedFalse d o))

-- and where it doesn't, there
pub ending-false : (call : Meaning) (d : ℕ) (steps : List Step) (i : ℕ) (s : Step) (rest : BodyTree) (e : Environment) (o left : ℕ) → i < length steps → s ≡ get_or steps i s
    → step_holds (step_tree s) e ≡ false → body_ending call d (with_steps (steps_from steps i) rest) e o left ≡ NeedFalse d o
ending-false call d steps i s rest e o left lt is fails =
    (λ j. body_ending call d (with_steps (steps_from-step steps i s lt is j) rest) e o left)
    ∙ (λ j. cond (fails j) (body_ending call d (with_steps (steps_from steps (i + 1)) rest) (after_step (step_tree s) e) (o + step_needs (step_tree s)) left) (NeedFalse d o))
