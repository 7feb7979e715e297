-- Bodies behind their steps, and arms one after the other.
use Rattle.std.proofs.Common.{◌≡◌, ◌⊎◌, ℕ, suc, ◌+◌, ◌<◌, ◌≤◌, Bool, true, false, List, [], ◌∷◌, length, get_or, map, drop, codes, refl, sym, ap, ◌∙◌, arith, ⊎_elim}
use Rattle.std.specs.Prelude.{IsTrue, ◌↔◌}
use Rattle.std.proofs.lemmas.Bool.{cases_lt, cases_eq}
use Rattle.std.proofs.lemmas.List.{drop_more, drop_all, length-drop}
use Rattle.tailrec_lang.specs.declared.group.Body.{Body}
use Rattle.tailrec_lang.specs.declared.group.Step.{Step}
use Rattle.tailrec_lang.proofs.Views.{view_body}
use Rattle.tailrec_lang.specs.declared.group.Exit.{Exit}
use Rattle.tailrec_lang.specs.Tree.{StepTree, Bind, BindMem, Need, BodyTree, ArmTrees, NoArm, Arm, GroupTree, with_steps, step_tree, body_tree}
use Rattle.tailrec_lang.specs.inner.Tree.{arm_trees, end_tree}
use Rattle.tailrec_lang.specs.inner.WellFormed.{words_after_all, mems_after_all}
use Rattle.tailrec_lang.specs.WellFormed.{exit_words}
use Rattle.smt_terms.specs.Expression.{Expr, apply}
use Rattle.smt_export.specs.declared.told.Told.{Told}
use Rattle.smt_export.specs.declared.told.Told.TheVariants.{ExitNumber}
use Rattle.smt_export.specs.Bodies.{body_expr, arms_expr, arm_or, exit_number, default}
use Rattle.smt_export.specs.inner.Steps.{step_expr, steps_expr, arm_by, arm_around, arms_from}
use Rattle.smt_export.proofs.Bodies.{results-length}

pub behind_steps : (g : GroupTree) (d : ℕ) (rest : BodyTree) (ss : List StepTree) (n m : ℕ) (t : Told)
    → steps_expr ss n m t (body_expr g d rest (words_after_all ss n) (mems_after_all ss m) t) ≡ body_expr g d (with_steps ss rest) n m t
behind_steps g d rest [] n m t = refl
behind_steps g d rest (Bind x ∷ ss) n m t = λ j. step_expr (Bind x) n m t (behind_steps g d rest ss (n + 1) m t j)
behind_steps g d rest (BindMem x ∷ ss) n m t = λ j. step_expr (BindMem x) n m t (behind_steps g d rest ss n (m + 1) t j)
behind_steps g d rest (Need c ∷ ss) n m t = λ j. step_expr (Need c) n m t (behind_steps g d rest ss n m t j)

pub body_behind : (g : GroupTree) (d : ℕ) (body : Body) (ss : List Step) (n m iw im : ℕ) (t : Told) (e r : Expr) → ss ≡ body.steps → iw ≡ words_after_all (map step_tree ss) n → im ≡ mems_after_all (map step_tree ss) m
    → e ≡ body_expr g d (end_tree body.end) iw im t → r ≡ steps_expr (map step_tree ss) n m t e → r ≡ body_expr g d (body_tree body) n m t
body_behind g d body ss n m iw im t e r same words mems told made =
    made ∙ (λ j. steps_expr (map step_tree ss) n m t (told j)) ∙ (λ j. steps_expr (map step_tree ss) n m t (body_expr g d (end_tree body.end) (words j) (mems j) t))
    ∙ behind_steps g d (end_tree body.end) (map step_tree ss) n m t
    ∙ (λ j. body_expr g d (with_steps (map step_tree (same j)) (end_tree body.end)) n m t)
    ∙ sym (ap (λ b. body_expr g d b n m t) (view_body body))

-- ---- arms

by_last : (xs : List Exit) (last : Bool) (test arm others : Expr) → (last ≡ true → length xs ≡ 0) → (last ≡ false → 0 < length xs) → arm_by last test arm others ≡ arm_or xs test arm others
by_last [] true test arm others h l = refl
by_last [] false test arm others h l = absurd (omega (arith, l refl))
by_last (x ∷ xs) true test arm others h l = absurd (omega (arith, h refl))
by_last (x ∷ xs) false test arm others h l = refl

module _ (g : GroupTree) (d : ℕ) (call : Told → Expr) (n m : ℕ) (t : Told) where
  one-arm : (x : Exit) (xs : List Exit) (b : Body) (bs : List Body) (k : ℕ)
      → arms_expr g d call (x ∷ xs) (arm_trees (b ∷ bs)) k n m t
      ≡ arm_or xs (apply (codes "=") (call ExitNumber ∷ exit_number k ∷ [])) (arm_around g call x n m (body_expr g d (body_tree b) (n + exit_words g x) (m + g.mems) t)) (arms_expr g d call xs (arm_trees bs) (k + 1) n m t)
  one-arm x xs b bs k =
      let next : suc k ≡ k + 1 = omega arith in
      λ j. arm_or xs (apply (codes "=") (call ExitNumber ∷ exit_number k ∷ []))
      (arm_around g call x n m (body_expr g d (body_tree b) (n + results-length g x j) (m + g.mems) t))
      (arms_expr g d call xs (arm_trees bs) (next j) n m t)

  pub arm_next : (xs : List Exit) (bs : List Body) (k : ℕ) (x : Exit) (b : Body) (last : Bool) (inner others term : Expr)
      → k < length xs → k < length bs → x ≡ get_or xs k x → b ≡ get_or bs k b → IsTrue last ↔ (length xs ≡ k + 1)
      → inner ≡ body_expr g d (body_tree b) (n + exit_words g x) (m + g.mems) t
      → others ≡ arms_from g d call xs bs (k + 1) n m t
      → term ≡ arm_by last (apply (codes "=") (call ExitNumber ∷ exit_number k ∷ [])) (arm_around g call x n m inner) others
      → term ≡ arms_from g d call xs bs k n m t
  arm_next xs bs k x b last inner others term more within there is ends told rest made =
      made
      ∙ (λ j. arm_by last (apply (codes "=") (call ExitNumber ∷ exit_number k ∷ [])) (arm_around g call x n m (told j)) (rest j))
      ∙ by_last (drop (k + 1) xs) last (apply (codes "=") (call ExitNumber ∷ exit_number k ∷ [])) (arm_around g call x n m (body_expr g d (body_tree b) (n + exit_words g x) (m + g.mems) t)) (arms_from g d call xs bs (k + 1) n m t)
      (λ e. let whole = ends.0 e in let left = length-drop (k + 1) xs in omega (arith, whole, left))
      (λ e. let left = length-drop (k + 1) xs in ⊎_elim (λ same. absurd (let yes_ : last ≡ true = ends.1 same in cc)) (λ apart. let more_ = further (length xs) k more apart in omega (arith, more_, left)) (cases_eq (length xs) (k + 1)))
      ∙ sym (one-arm x (drop (k + 1) xs) b (drop (k + 1) bs) k)
      ∙ (λ j. arms_expr g d call (there j ∷ drop (k + 1) xs) (arm_trees (is j ∷ drop (k + 1) bs)) k n m t)
      ∙ (λ j. arms_expr g d call (sym (drop_more xs k x more) j) (arm_trees (sym (drop_more bs k b within) j)) k n m t)
    where
      further : (l k : ℕ) → k < l → (l ≡ k + 1 → ⊥) → k + 1 < l
      further l k lt apart = ⊎_elim (λ h. h) (λ le. absurd (apart (omega (arith, le, lt)))) (cases_lt (k + 1) l)

  -- behind the last arm, or the last exit
  pub no_arm : (xs : List Exit) (bs : List Body) (k : ℕ) (term : Expr) → length xs ≤ k ⊎ length bs ≤ k → term ≡ default t → term ≡ arms_from g d call xs bs k n m t
  no_arm xs bs k term past made = ⊎_elim
      (λ le. made ∙ none_left (arm_trees (drop k bs)) k ∙ (λ j. arms_expr g d call (sym (drop_all k xs le) j) (arm_trees (drop k bs)) k n m t))
      (λ le. made ∙ no_exit (drop k xs) k ∙ (λ j. arms_expr g d call (drop k xs) (arm_trees (sym (drop_all k bs le) j)) k n m t)) past
    where
      none_left : (bs : ArmTrees) (k : ℕ) → default t ≡ arms_expr g d call [] bs k n m t
      none_left NoArm k = refl
      none_left (Arm b bs) k = refl

      no_exit : (xs : List Exit) (k : ℕ) → default t ≡ arms_expr g d call xs NoArm k n m t
      no_exit [] k = refl
      no_exit (x ∷ xs) k = refl
