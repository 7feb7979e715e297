use Rattle.word_terms.specs.Tree.{mem_tree}
use Rattle.term_arena.specs.Arena.{OfMem}
use Rattle.held_terms.proofs.PutLemmas.{mem_put}
use Rattle.held_terms.proofs.PutOrder.{one-put}
use Rattle.held_terms.proofs.put.put_mem.Goals as goal

pub returns-clause-put : goal.returns-clause-put
returns-clause-put g c = mem_put c.put_mem.new.self c.in_ok-k.k _ c.in_ok-k.ensures.tree

pub returns-clause-order : goal.returns-clause-order
returns-clause-order g c = one-put c.args.arena.now (OfMem (mem_tree c.args.mem.now)) c.put_mem.new.self c.in_ok-k.ensures.order
