use Rattle.std.proofs.Common.{map, take}
use Rattle.triple_kernel.specs.Tree.{fact_tree}
use Rattle.frame_compose.specs.Rules.{AreMissing}
use Rattle.path_walk.proofs.compose.missing.Given as goal

abbrev pub invariant-loop-fact : goal.invariant-loop-fact
invariant-loop-fact l = AreMissing (map fact_tree l.known) (map fact_tree (take l.fact-index l.facts)) (map fact_tree l.more)
