-- When bodies and arms are well-formed, from their parts.
use Rattle.std.proofs.Common.{◌≡◌, ℕ, suc, ◌+◌, ◌<◌, ◌≤◌, List, [], ◌∷◌, length, map, get_or, drop, refl, sym, ap, ◌∙◌, arith, subst, ◌↔◌}
use Rattle.std.specs.Prelude.{Box, slice_get}
use Rattle.std.specs.declared.alloc.Global.{Global}
use Rattle.std.proofs.Math.Seq.{drop-cons}
use Rattle.std.proofs.Math.ListN.{drop_of_length-le}
use Rattle.word_terms.specs.Tree.{cond_tree}
use Rattle.word_terms.specs.Scope.{CondInScope}
use Rattle.word_terms.specs.declared.term.Cond.{Cond}
use Rattle.tailrec_lang.specs.declared.group.Exit.{Exit}
use Rattle.tailrec_lang.specs.declared.group.Values.{Values}
use Rattle.tailrec_lang.specs.declared.group.Step.{Step}
use Rattle.tailrec_lang.specs.declared.group.Body.{Body}
use Rattle.tailrec_lang.specs.declared.group.End.{End}
use Rattle.tailrec_lang.specs.declared.group.End.TheVariants as end
use Rattle.tailrec_lang.specs.Tree.{BodyTree, GroupTree, body_tree, exits_at, step_tree, values_tree, with_steps}
use Rattle.tailrec_lang.specs.inner.Tree.{arm_trees, end_tree}
use Rattle.tailrec_lang.specs.WellFormed.{ArmsAreWellFormed, BodyIsWellFormed, HasCounts, ValuesInScope, exit_words}
use Rattle.tailrec_lang.specs.inner.WellFormed.{FitsExit, StepsInScope, words_after_all, mems_after_all}
use Rattle.tailrec_lang.proofs.Views.{view_body, view_branch, view_call, view_again, view_leave}
use Rattle.tailrec_lang.proofs.Bodies.{scope_body}
use Rattle.tailrec_lang.proofs.Counts.{steps_well_formed}

-- both of two facts, each of which is another
pub two : {R X Y A B : Type 0} → (R ↔ (X × Y)) → (X ↔ A) → (Y ↔ B) → (R ↔ (A × B))
two e f g = (λ r. let h = e.0 r in (f.0 h.0, g.0 h.1), λ h. e.1 (f.1 h.0, g.1 h.1))

pub three : {R S X Y Z A B C : Type 0} → (R ↔ (X × S)) → (S ↔ (Y × Z)) → (X ↔ A) → (Y ↔ B) → (Z ↔ C) → (R ↔ (A × B × C))
three e e' f g h = (λ r. let p = e.0 r in let q = e'.0 p.1 in (f.0 p.0, g.0 q.0, h.0 q.1), λ t. e.1 (f.1 t.0, e'.1 (g.1 t.1, h.1 t.2)))

pub four : {R S T W X Y Z A B C D : Type 0} → (R ↔ (W × S)) → (S ↔ (X × T)) → (T ↔ (Y × Z)) → (W ↔ A) → (X ↔ B) → (Y ↔ C) → (Z ↔ D) → (R ↔ (A × B × C × D))
four e e' e'' f g h k = (
  λ r. let p = e.0 r in let q = e'.0 p.1 in let s = e''.0 q.1 in (f.0 p.0, g.0 q.0, h.0 s.0, k.0 s.1),
  λ t. e.1 (f.1 t.0, e'.1 (g.1 t.1, e''.1 (h.1 t.2, k.1 t.3))),
)

as_tree : (g : GroupTree) (d : ℕ) (t u : BodyTree) (w m : ℕ) → t ≡ u → (BodyIsWellFormed g d u w m ↔ BodyIsWellFormed g d t w m)
as_tree g d t u w m e = (subst (λ x. BodyIsWellFormed g d x w m) (sym e), subst (λ x. BodyIsWellFormed g d x w m) e)

pub branch_well_formed : (g : GroupTree) (d : ℕ) (x : End) (c : Cond) (a b : Box Body Global) (w m : ℕ) → x ≡ end.Branch c a b
    → ((CondInScope (cond_tree c) w m × BodyIsWellFormed g d (body_tree a.value) w m × BodyIsWellFormed g d (body_tree b.value) w m) ↔ BodyIsWellFormed g d (end_tree x) w m)
branch_well_formed g d x c a b w m is = as_tree g d (end_tree x) _ w m (ap end_tree is ∙ view_branch c a b)

pub call_well_formed : (g : GroupTree) (d : ℕ) (x : End) (def : ℕ) (v : Values) (arms : List Body) (w m : ℕ) → x ≡ end.Call def v arms
    → (((def < d) × HasCounts (values_tree v) (length g.regs) g.mems × ValuesInScope (values_tree v) w m × ArmsAreWellFormed g d (exits_at g def) (arm_trees arms) w m) ↔ BodyIsWellFormed g d (end_tree x) w m)
call_well_formed g d x def v arms w m is = as_tree g d (end_tree x) _ w m (ap end_tree is ∙ view_call def v arms)

pub again_well_formed : (g : GroupTree) (d : ℕ) (x : End) (v : Values) (w m : ℕ) → x ≡ end.Again v
    → ((HasCounts (values_tree v) (length g.regs) g.mems × ValuesInScope (values_tree v) w m) ↔ BodyIsWellFormed g d (end_tree x) w m)
again_well_formed g d x v w m is = as_tree g d (end_tree x) _ w m (ap end_tree is ∙ view_again v)

pub leave_well_formed : (g : GroupTree) (d : ℕ) (x : End) (exit : ℕ) (v : Values) (w m : ℕ) → x ≡ end.Leave exit v
    → ((FitsExit g (slice_get (exits_at g d) exit) (values_tree v) × ValuesInScope (values_tree v) w m) ↔ BodyIsWellFormed g d (end_tree x) w m)
leave_well_formed g d x exit v w m is = as_tree g d (end_tree x) _ w m (ap end_tree is ∙ view_leave exit v)

-- a body whose steps are in scope
pub body_well_formed : (g : GroupTree) (d : ℕ) (b : Body) (steps : List Step) (w m : ℕ) → steps ≡ b.steps → StepsInScope (map step_tree steps) w m
    → (BodyIsWellFormed g d (end_tree b.end) (words_after_all (map step_tree steps) w) (mems_after_all (map step_tree steps) m) ↔ BodyIsWellFormed g d (body_tree b) w m)
body_well_formed g d b steps w m is scope =
    let split = steps_well_formed g d (map step_tree steps) (end_tree b.end) w m in (
      λ h. subst (λ t. BodyIsWellFormed g d t w m) (sym (view_body b)) (subst (λ ss. BodyIsWellFormed g d (with_steps (map step_tree ss) (end_tree b.end)) w m) is (split.1 (scope, h))),
      λ h. (split.0 (scope_body g d b steps w m is h)).1,
    )

-- a body whose steps aren't
pub body_ill_formed : (g : GroupTree) (d : ℕ) (b : Body) (steps : List Step) (w m : ℕ) → steps ≡ b.steps → BodyIsWellFormed g d (body_tree b) w m → StepsInScope (map step_tree steps) w m
body_ill_formed g d b steps w m is h = ((steps_well_formed g d (map step_tree steps) (end_tree b.end) w m).0 (scope_body g d b steps w m is h)).0

-- ---- arms

pub arms_count : (g : GroupTree) (d : ℕ) (xs : List Exit) (bs : List Body) (w m : ℕ) → ArmsAreWellFormed g d xs (arm_trees bs) w m → length bs ≡ length xs
arms_count g d [] [] w m h = refl
arms_count g d [] (b ∷ bs) w m h = absurd h
arms_count g d (x ∷ xs) [] w m h = absurd h
arms_count g d (x ∷ xs) (b ∷ bs) w m h = ap suc (arms_count g d xs bs w m h.1)

pub arms_step : (g : GroupTree) (d : ℕ) (xs : List Exit) (bs : List Body) (i : ℕ) (x : Exit) (b : Body) (w m r : ℕ) → i < length xs → i < length bs → r ≡ exit_words g (get_or xs i x) → b ≡ get_or bs i b
    → (ArmsAreWellFormed g d (drop i xs) (arm_trees (drop i bs)) w m
    ↔ (BodyIsWellFormed g d (body_tree b) (w + r) (m + g.mems) × ArmsAreWellFormed g d (drop (i + 1) xs) (arm_trees (drop (i + 1) bs)) w m))
arms_step g d xs bs i x b w m r lx lb words at =
    let next : suc i ≡ i + 1 = omega arith in
    let exits = drop-cons xs i x lx in
    let arms = drop-cons bs i b lb in (
      λ h.
          let h1 = subst (λ ys. ArmsAreWellFormed g d ys (arm_trees (drop i bs)) w m) exits h in
          let h2 = subst (λ cs. ArmsAreWellFormed g d (get_or xs i x ∷ drop (suc i) xs) (arm_trees cs) w m) arms h1 in (
            subst (λ n. BodyIsWellFormed g d (body_tree b) (w + n) (m + g.mems)) (sym words) (subst (λ z. BodyIsWellFormed g d (body_tree z) (w + exit_words g (get_or xs i x)) (m + g.mems)) (sym at) h2.0),
            subst (λ k. ArmsAreWellFormed g d (drop k xs) (arm_trees (drop k bs)) w m) next h2.1,
          ),
      λ h.
          let first = subst (λ z. BodyIsWellFormed g d (body_tree z) (w + exit_words g (get_or xs i x)) (m + g.mems)) at (subst (λ n. BodyIsWellFormed g d (body_tree b) (w + n) (m + g.mems)) words h.0) in
          let rest = subst (λ k. ArmsAreWellFormed g d (drop k xs) (arm_trees (drop k bs)) w m) (sym next) h.1 in
          subst (λ ys. ArmsAreWellFormed g d ys (arm_trees (drop i bs)) w m) (sym exits)
          (subst (λ cs. ArmsAreWellFormed g d (get_or xs i x ∷ drop (suc i) xs) (arm_trees cs) w m) (sym arms) (first, rest)),
    )

pub arms_end : (g : GroupTree) (d : ℕ) (xs : List Exit) (bs : List Body) (i w m : ℕ) → length xs ≤ i → length bs ≤ i → ArmsAreWellFormed g d (drop i xs) (arm_trees (drop i bs)) w m
arms_end g d xs bs i w m lx lb =
    subst (λ ys. ArmsAreWellFormed g d ys (arm_trees (drop i bs)) w m) (sym (drop_of_length-le xs lx)) (subst (λ cs. ArmsAreWellFormed g d [] (arm_trees cs) w m) (sym (drop_of_length-le bs lb)) tt)
