use Rattle.std.proofs.Common.{map, take}
use Rattle.std.specs.List.{Contains}
use Rattle.word_terms.specs.Tree.{word_tree}
use Rattle.triple_kernel.specs.Tree.{WordIs, fact_tree}
use Rattle.triple_kernel.proofs.swap.is_word_stated.Given as goal

abbrev pub invariant-loop-fact : goal.invariant-loop-fact
invariant-loop-fact l = Contains (map fact_tree (take l.fact-index l.facts)) (WordIs (word_tree l.a) (word_tree l.b)) → ⊥
