use Rattle.std.proofs.Common.{◌≡◌, ◌++◌, map, take}
use Rattle.tailrec_lang.specs.Tree.{step_tree}
use Rattle.fun_laws.specs.Rewriting.{step_term}
use Rattle.fun_laws.specs.inner.Apart.{blank_step}
use Rattle.fun_laws.specs.inner.Taken.{term_of}
use Rattle.fun_laws.proofs.apart.take_steps.Given as goal

abbrev pub invariant-loop-step : goal.invariant-loop-step
invariant-loop-step l =
    (map step_tree l.blanks ≡ map blank_step (map step_tree (take l.step-index l.steps)))
    × (map term_of l.found ≡ map term_of l.fn.found ++ map step_term (map step_tree (take l.step-index l.steps)))
