use Rattle.term_arena.proofs.TreeLemmas.{number_within}
use Rattle.checker.proofs.trees.+conds.Goals as goal

pub node-requires : goal.node-requires
node-requires g t c = number_within c.args.arena.now c.args.k _ c.requires
