use Rattle.std.proofs.Common.{map, take}
use Rattle.std.specs.List.{Contains}
use Rattle.word_terms.specs.Tree.{mem_tree}
use Rattle.triple_kernel.specs.Tree.{MemIs, fact_tree}
use Rattle.triple_kernel.proofs.swap.is_mem_stated.Given as goal

abbrev pub invariant-loop-fact : goal.invariant-loop-fact
invariant-loop-fact l = Contains (map fact_tree (take l.fact-index l.facts)) (MemIs (mem_tree l.a) (mem_tree l.b)) → ⊥
