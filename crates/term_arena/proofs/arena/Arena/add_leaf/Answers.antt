use Rattle.term_arena.proofs.PutOrder.{put-old}
use Rattle.term_arena.proofs.TreeLemmas.{tree_of-node}
use Rattle.term_arena.proofs.arena.Arena.add_leaf.Goals as goal

pub returns-in-Some-clause-tree : goal.returns-in-Some-clause-tree
returns-in-Some-clause-tree g c = tree_of-node c.args.self.now c.in-Some.k c.args.n c.first_number_of.ensures.arena c.in-Some.ensures.found

pub returns-in-Some-clause-order : goal.returns-in-Some-clause-order
returns-in-Some-clause-order g c = put-old c.args.self.now c.args.n c.in-Some.k c.first_number_of.ensures.arena c.in-Some.ensures.found
