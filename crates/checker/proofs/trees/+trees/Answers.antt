use Rattle.term_arena.proofs.TreeLemmas.{number_within}
use Rattle.checker.proofs.trees.+trees.Goals as goal

pub mem_from-node-requires : goal.mem_from-node-requires
mem_from-node-requires g t c = number_within c.args.arena.now c.args.k _ c.requires

pub word_from-node-requires : goal.word_from-node-requires
word_from-node-requires g t c = number_within c.args.arena.now c.args.k _ c.requires
