-- What a body tells, from what the rest behind its steps tells.
use Rattle.std.specs.Prelude.{ℕ, Bool, true, false, List, [], ◌∷◌, length, drop, Some}
use Rattle.tailrec_lang.specs.declared.group.Body.{Body}
use Rattle.tailrec_lang.specs.declared.group.Exit.{Exit}
use Rattle.tailrec_lang.specs.Tree.{StepTree, Bind, BindMem, Need, GroupTree}
use Rattle.tailrec_lang.specs.inner.Tree.{arm_trees}
use Rattle.tailrec_lang.specs.WellFormed.{words_after, mems_after}
use Rattle.smt_terms.specs.Expression.{Expr, bound, ite}
use Rattle.smt_export.specs.declared.told.Told.{Told}
use Rattle.smt_export.specs.Told.{word_name, mem_name, dom_name}
use Rattle.smt_export.specs.Terms.{word_expr, mem_expr, dom_expr, cond_expr}
use Rattle.smt_export.specs.Bodies.{with_condition, let_words, let_mems, call_results, arms_expr}

abbrev pub step_expr : StepTree → ℕ → ℕ → Told → Expr → Expr
step_expr (Bind x) n m t rest = bound (word_name n) (word_expr x) rest
step_expr (BindMem x) n m t rest = bound (mem_name m) (mem_expr x) (bound (dom_name m) (dom_expr x) rest)
step_expr (Need c) n m t rest = with_condition t (cond_expr c) rest

abbrev pub steps_expr : List StepTree → ℕ → ℕ → Told → Expr → Expr
steps_expr [] n m t rest = rest
steps_expr (s ∷ ss) n m t rest = step_expr s n m t (steps_expr ss (words_after s n) (mems_after s m) t rest)

-- the arm of an exit, which may be the last one
abbrev pub arm_by : Bool → Expr → Expr → Expr → Expr
arm_by true test arm others = arm
arm_by false test arm others = ite test arm others

-- where a call left by that exit, a term whose variables are the results
abbrev pub arm_around : GroupTree → (Told → Expr) → Exit → ℕ → ℕ → Expr → Expr
arm_around g call x n m inner = let_words call (call_results (length g.regs) (Some x)) n (let_mems call 0 g.mems m inner)

-- the arms from a place on
abbrev pub arms_from : GroupTree → ℕ → (Told → Expr) → List Exit → List Body → ℕ → ℕ → ℕ → Told → Expr
arms_from g d call xs bs k n m t = arms_expr g d call (drop k xs) (arm_trees (drop k bs)) k n m t
