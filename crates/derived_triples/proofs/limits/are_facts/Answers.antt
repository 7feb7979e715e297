use Rattle.std.proofs.Common.{sym, subst}
use Rattle.held_terms.specs.declared.held.HeldFact.{HeldFact}
use Rattle.proof_text.specs.LineLimits.{IsFact}
use Rattle.held_terms.specs.Held.{fact_of}
use Rattle.derived_triples.proofs.LimitLemmas.{not_each}
use Rattle.derived_triples.proofs.limits.are_facts.Goals as goal

pub returns-then-not-is_fact : goal.returns-then-not-is_fact
returns-then-not-is_fact c =
    let ns = c.args.arena.now in
    not_each IsFact (fact_of ns) c.args.facts.now c.loop-fact.fact-index _ c.loop-fact-test.true (c.if-not-is_fact.true) (λ p. c.is_fact.ensures.1 (subst (λ (f : HeldFact). IsFact (fact_of ns f)) (sym c.fact-item.is) p))
