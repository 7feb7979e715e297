use Rattle.term_arena.proofs.TreeLemmas.{tree_of-node, children_of-node, below_node, numbers-trees}
use Rattle.term_arena.proofs.PutLemmas.{tree_stays}
use Rattle.term_arena.proofs.laws.law_of_arenas.Goals as goal

pub returns : goal.returns
returns c = record { node = tree_of-node; children = children_of-node; below = below_node; equal = numbers-trees; kept = tree_stays }
