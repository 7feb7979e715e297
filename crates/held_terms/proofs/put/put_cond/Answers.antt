use Rattle.word_terms.specs.Tree.{cond_tree}
use Rattle.term_arena.specs.Arena.{OfCond}
use Rattle.held_terms.proofs.PutLemmas.{cond_put}
use Rattle.held_terms.proofs.PutOrder.{one-put}
use Rattle.held_terms.proofs.put.put_cond.Goals as goal

pub returns-clause-put : goal.returns-clause-put
returns-clause-put g c = cond_put c.put_cond.new.self c.in_ok-k.k _ c.in_ok-k.ensures.tree

pub returns-clause-order : goal.returns-clause-order
returns-clause-order g c = one-put c.args.arena.now (OfCond (cond_tree c.args.cond.now)) c.put_cond.new.self c.in_ok-k.ensures.order
