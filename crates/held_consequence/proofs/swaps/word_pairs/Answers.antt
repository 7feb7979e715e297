use Rattle.term_arena.proofs.TreeLemmas.{number_within}
use Rattle.held_consequence.proofs.SwapLemmas.{words_split, words_fit}
use Rattle.held_consequence.proofs.TableLemmas.{words_under}
use Rattle.held_consequence.proofs.swaps.word_pairs.Goals as goal

pub returns-clause-fit : goal.returns-clause-fit
returns-clause-fit g c = words_fit c.args.arena.now c.args.a c.node-n.result c.node-m.result _ c.node-n.ensures.below c.node-n.ensures.children c.node-m.ensures.children c.word_pairs_of.ensures

pub returns-clause-split : goal.returns-clause-split
returns-clause-split g c facts =
    words_split c.args.arena.now facts c.args.a c.args.b c.node-n.result c.node-m.result _ c.node-n.ensures.tree c.node-m.ensures.tree c.word_pairs_of.ensures

pub node-n-requires : goal.node-n-requires
node-n-requires g c = number_within c.args.arena.now c.args.a _ c.requires.a

pub node-m-requires : goal.node-m-requires
node-m-requires g c = number_within c.args.arena.now c.args.b _ c.requires.b

pub returns-clause-under : goal.returns-clause-under
returns-clause-under g c =
    words_under c.args.arena.now c.args.a c.args.b c.node-n.result c.node-m.result _ c.node-n.ensures.tree c.node-m.ensures.tree c.node-n.ensures.children c.node-m.ensures.children c.word_pairs_of.ensures
