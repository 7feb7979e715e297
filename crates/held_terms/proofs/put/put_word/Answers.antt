use Rattle.word_terms.specs.Tree.{word_tree}
use Rattle.term_arena.specs.Arena.{OfWord}
use Rattle.held_terms.proofs.PutLemmas.{word_put}
use Rattle.held_terms.proofs.PutOrder.{one-put}
use Rattle.held_terms.proofs.put.put_word.Goals as goal

pub returns-clause-put : goal.returns-clause-put
returns-clause-put g c = word_put c.put_word.new.self c.in_ok-k.k _ c.in_ok-k.ensures.tree

pub returns-clause-order : goal.returns-clause-order
returns-clause-order g c = one-put c.args.arena.now (OfWord (word_tree c.args.word.now)) c.put_word.new.self c.in_ok-k.ensures.order
