use Rattle.std.proofs.Common.{◌≡◌, ℕ, map, ◌↔◌}
use Rattle.tailrec_lang.specs.Tree.{step_tree}
use Rattle.tailrec_lang.specs.inner.WellFormed.{Counts, StepsInScope, words_after_all, mems_after_all}
use Rattle.tailrec_lang.proofs.Steps.{steps_from}
use Rattle.tailrec_lang.proofs.scope.scope_after.Given as goal

abbrev pub invariant-loop-step : goal.invariant-loop-step
invariant-loop-step l = (w m : ℕ) → Counts l.fn.scope w m → (v : ℕ) × (k : ℕ) × Counts l.after v k
    × (StepsInScope (map step_tree l.steps) w m ↔ StepsInScope (steps_from l.steps l.step-index) v k)
    × (words_after_all (map step_tree l.steps) w ≡ words_after_all (steps_from l.steps l.step-index) v)
    × (mems_after_all (map step_tree l.steps) m ≡ mems_after_all (steps_from l.steps l.step-index) k)
