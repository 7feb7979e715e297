use Rattle.std.proofs.Common.{List, subst}
use Rattle.held_terms.specs.declared.held.HeldFact.{HeldFact}
use Rattle.derived_triples.specs.inner.Making.{AddedIfNew}
use Rattle.derived_triples.proofs.MakingLemmas.{missing_more, fine_more}
use Rattle.derived_triples.proofs.making.missing_facts.Goals as goal

pub loop-fact-preserved : goal.loop-fact-preserved
loop-fact-preserved c =
    let ns = c.args.arena.now in
    let first = c.args.first.now in
    let second = c.args.second.now in
    let i = c.loop-fact.fact-index in
    let old = c.loop-fact.more in
    let new = c.add_if_new.new.more in
    let added = subst (λ (known : List HeldFact). AddedIfNew ns known c.fact-item.result old new) c.new-known.ensures c.in_ok-add_if_new.ensures in
    record {
      missing = missing_more ns first second i c.fact-item.result c.loop-fact-test.true c.fact-item.is old new added c.loop-fact.invariant.missing;
      fine = fine_more ns first second old new i c.fact-item.result c.loop-fact-test.true c.fact-item.is added c.requires.second c.loop-fact.invariant.fine;
    }
