use Rattle.std.specs.Vec.{vec_items}
use Rattle.held_terms.proofs.NumberLemmas.{listed_more, listed_none}
use Rattle.held_terms.proofs.facts.index_of.Goals as goal

pub loop-fact-preserved : goal.loop-fact-preserved
loop-fact-preserved c =
    listed_more (λ v. vec_items v) c.args.facts.now c.loop-fact.fact-index c.fact-item.result c.loop-fact.index.keys c.insert.new.self.keys c.in_ok-numbers.numbers
    c.loop-fact-test.true c.fact-item.is c.in_ok-numbers.ensures c.in_ok-insert.ensures.keys c.loop-fact.invariant
