use Rattle.std.proofs.Common.{◌≡◌, ◌+◌, ◌≤◌, drop, flat_map, map, take}
use Rattle.triple_kernel.specs.Tree.{fact_tree}
use Rattle.held_terms.specs.Held.{fact_of}
use Rattle.held_terms.specs.Terms.{fact_terms, nodes_of}
use Rattle.checker.proofs.trees.facts_from.Given as goal

abbrev pub invariant-loop-fact : goal.invariant-loop-fact
invariant-loop-fact g l = record {
  read : map fact_tree l.trees ≡ map (fact_of l.arena) (take l.fact-index l.facts);
  few : l.steps + nodes_of (flat_map fact_terms (map (fact_of l.arena) (drop l.fact-index l.facts))) ≤ l.fn.steps + nodes_of (flat_map fact_terms (map (fact_of l.arena) l.facts));
}
