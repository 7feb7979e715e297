-- Bodies and arms in range, part by part.
use Rattle.std.proofs.Common.{◌≡◌, ℕ, ◌+◌, ◌<◌, List, [], ◌∷◌, ◌++◌, length, get_or, map, take, sym, subst, ◌∙◌, ap}
use Rattle.std.specs.List.{AllByRecursion}
use Rattle.std.proofs.lemmas.List.{map-append, take_more}
use Rattle.tailrec_lang.specs.declared.group.Body.{Body}
use Rattle.tailrec_lang.specs.Tree.{BodyTree, StepTree, arms_of, body_tree, step_tree, with_steps}
use Rattle.tailrec_lang.specs.inner.Tree.{arm_trees, end_tree}
use Rattle.tailrec_lang.proofs.Views.{view_body}
use Rattle.group_terms.specs.Range.{StepInRange, BodyInRange, ArmsInRange}

steps-ranged : (ss : List StepTree) (b : BodyTree) → AllByRecursion StepInRange ss → BodyInRange b → BodyInRange (with_steps ss b)
steps-ranged [] b h r = r
steps-ranged (s ∷ ss) b h r = (h.0, steps-ranged ss b h.1 r)

pub body_ranged : (b : Body) → AllByRecursion StepInRange (map step_tree b.steps) → BodyInRange (end_tree b.end) → BodyInRange (body_tree b)
body_ranged b h r = subst BodyInRange (sym (view_body b)) (steps-ranged (map step_tree b.steps) (end_tree b.end) h r)

one-more : (bs : List BodyTree) (b : BodyTree) → ArmsInRange (arms_of bs) → BodyInRange b → ArmsInRange (arms_of (bs ++ b ∷ []))
one-more [] b h r = (r, tt)
one-more (a ∷ bs) b h r = (h.0, one-more bs b h.1 r)

-- the first i arms and the next one
pub arm_ranged : (bs : List Body) (i : ℕ) (b : Body) → i < length bs → b ≡ get_or bs i b → ArmsInRange (arm_trees (take i bs)) → BodyInRange (body_tree b) → ArmsInRange (arm_trees (take (i + 1) bs))
arm_ranged bs i b lt is h r =
    let more : map body_tree (take (i + 1) bs) ≡ map body_tree (take i bs) ++ body_tree b ∷ [] =
    ap (map body_tree) (take_more bs i b lt) ∙ map-append body_tree (take i bs) (get_or bs i b ∷ []) ∙ (λ j. map body_tree (take i bs) ++ body_tree (sym is j) ∷ []) in
    subst (λ v. ArmsInRange (arms_of v)) (sym more) (one-more (map body_tree (take i bs)) (body_tree b) h r)
