-- Bodies that are the same have the same steps and the same ends.
use Rattle.std.proofs.Common.{◌≡◌, false, List, [], ◌∷◌, map, length, refl, sym, ap, ◌∙◌}
use Rattle.tailrec_lang.specs.declared.group.Body.{Body}
use Rattle.tailrec_lang.specs.Tree.{BodyTree, StepTree, body_tree, step_tree, with_steps, arms_of}
use Rattle.tailrec_lang.specs.inner.Tree.{arm_trees, end_tree}
use Rattle.tailrec_lang.proofs.Views.{view_body}
use Rattle.group_terms.specs.inner.Steps.{is_do}
use Rattle.std.proofs.lemmas.List.{length-map}

parts : (ss ts : List StepTree) (x y : BodyTree) → is_do x ≡ false → is_do y ≡ false → with_steps ss x ≡ with_steps ts y → (ss ≡ ts) × (x ≡ y)
parts [] [] x y hx hy e = (refl, e)
parts [] (t ∷ ts) x y hx hy e = let f = ap is_do e in absurd (cc)
parts (s ∷ ss) [] x y hx hy e = let f = ap is_do e in absurd (cc)
parts (s ∷ ss) (t ∷ ts) x y hx hy e =
    let a : s ≡ t = cc in
    let b : with_steps ss x ≡ with_steps ts y = cc in
    let r = parts ss ts x y hx hy b in
    ((λ j. a j ∷ r.0 j), r.1)

pub bodies_same : (a b : Body) → is_do (end_tree a.end) ≡ false → is_do (end_tree b.end) ≡ false → body_tree a ≡ body_tree b
    → (map step_tree a.steps ≡ map step_tree b.steps) × (end_tree a.end ≡ end_tree b.end)
bodies_same a b ha hb e = parts (map step_tree a.steps) (map step_tree b.steps) (end_tree a.end) (end_tree b.end) ha hb (sym (view_body a) ∙ e ∙ view_body b)

listed : (xs ys : List BodyTree) → arms_of xs ≡ arms_of ys → xs ≡ ys
listed [] [] e = refl
listed [] (y ∷ ys) e = absurd (cc)
listed (x ∷ xs) [] e = absurd (cc)
listed (x ∷ xs) (y ∷ ys) e = let a : x ≡ y = cc in let b : arms_of xs ≡ arms_of ys = cc in (λ j. a j ∷ listed xs ys b j)

pub arms_same : (xs ys : List Body) → arm_trees xs ≡ arm_trees ys → map body_tree xs ≡ map body_tree ys
arms_same xs ys e = listed (map body_tree xs) (map body_tree ys) e

counted : (xs ys : List Body) → map body_tree xs ≡ map body_tree ys → length xs ≡ length ys
counted xs ys e = sym (length-map xs body_tree) ∙ ap length e ∙ length-map ys body_tree

pub arms_counted : (xs ys : List Body) → arm_trees xs ≡ arm_trees ys → length xs ≡ length ys
arms_counted xs ys e = counted xs ys (arms_same xs ys e)
