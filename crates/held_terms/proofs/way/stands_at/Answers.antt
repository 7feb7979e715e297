use Rattle.held_terms.proofs.WayLemmas.{stands_is}
use Rattle.held_terms.proofs.way.stands_at.Goals as goal

pub returns : goal.returns
returns c = stands_is c.args.arena.now c.law_of_nodes.ensures c.args.facts.now c.requires.facts c.args.place c.args.fact.now _ c.requires.fact c.is_at.ensures.is
