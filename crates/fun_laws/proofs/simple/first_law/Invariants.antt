use Rattle.std.proofs.Common.{ℕ, ◌<◌}
use Rattle.word_terms.specs.Tree.{word_tree}
use Rattle.fun_laws.specs.Laws.{OfWord}
use Rattle.fun_laws.specs.inner.Steps.{IsFree}
use Rattle.fun_laws.proofs.simple.first_law.Given as goal

abbrev pub invariant-loop-law : goal.invariant-loop-law
invariant-loop-law l = (n : ℕ) → n < l.law → IsFree n (OfWord (word_tree l.t))
