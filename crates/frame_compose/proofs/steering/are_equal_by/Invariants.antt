use Rattle.std.proofs.Common.{map, take}
use Rattle.std.specs.List.{Contains}
use Rattle.rv_words.specs.declared.comparison.Cmp.TheVariants.{Eq}
use Rattle.word_terms.specs.Tree.{Compare, word_tree}
use Rattle.triple_kernel.specs.Tree.{So, fact_tree}
use Rattle.frame_compose.proofs.steering.are_equal_by.Given as goal

abbrev pub invariant-loop-fact : goal.invariant-loop-fact
invariant-loop-fact l = Contains (map fact_tree (take l.fact-index l.facts)) (So (Compare Eq (word_tree l.a) (word_tree l.b))) → ⊥
