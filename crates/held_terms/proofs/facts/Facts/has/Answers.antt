use Rattle.held_terms.proofs.ToldLemmas.{by_numbers}
use Rattle.held_terms.proofs.facts.Facts.has.Goals as goal

pub returns-in-Some : goal.returns-in-Some
returns-in-Some c = by_numbers c.args.arena.now c.law_of_nodes.ensures c.args.self.now c.args.fact.now c.requires.facts c.requires.fact c.in-Some.listed c.in-Some.ensures
