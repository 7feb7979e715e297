use Rattle.std.proofs.Common.{map, take}
use Rattle.std.specs.List.{Contains}
use Rattle.word_terms.specs.Tree.{CondTree, cond_tree}
use Rattle.triple_kernel.specs.Tree.{So, fact_tree}
use Rattle.triple_kernel.specs.Rules.{Alike}
use Rattle.triple_kernel.proofs.following.is_like_some.Given as goal

-- no condition of those so far is like it
abbrev pub invariant-loop-fact : goal.invariant-loop-fact
invariant-loop-fact l = (d : CondTree) → Contains (map fact_tree (take l.fact-index l.facts)) (So d) → Alike (map fact_tree l.facts) (cond_tree l.c) d → ⊥
