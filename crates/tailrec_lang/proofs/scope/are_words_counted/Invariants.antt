use Rattle.std.proofs.Common.{ℕ, map, take}
use Rattle.std.specs.Prelude.{All}
use Rattle.word_terms.specs.Tree.{word_tree}
use Rattle.word_terms.specs.Scope.{WordInScope}
use Rattle.tailrec_lang.specs.inner.WellFormed.{Counts}
use Rattle.tailrec_lang.proofs.scope.are_words_counted.Given as goal

abbrev pub invariant-loop-t : goal.invariant-loop-t
invariant-loop-t l = (w m : ℕ) → Counts l.scope w m → All (λ t. WordInScope t w m) (map word_tree (take l.t-index l.terms))
