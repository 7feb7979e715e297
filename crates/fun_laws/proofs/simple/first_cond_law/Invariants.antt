use Rattle.std.proofs.Common.{ℕ, ◌<◌}
use Rattle.word_terms.specs.Tree.{cond_tree}
use Rattle.fun_laws.specs.Laws.{OfCond}
use Rattle.fun_laws.specs.inner.Steps.{IsFree}
use Rattle.fun_laws.proofs.simple.first_cond_law.Given as goal

abbrev pub invariant-loop-law : goal.invariant-loop-law
invariant-loop-law l = (n : ℕ) → n < l.law → IsFree n (OfCond (cond_tree l.c))
