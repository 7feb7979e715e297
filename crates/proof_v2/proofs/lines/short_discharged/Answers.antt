use Rattle.std.proofs.Common.{List, map, flat_map, subst}
use Rattle.triple_kernel.specs.declared.triple.Fact.{Fact}
use Rattle.triple_kernel.specs.Tree.{fact_tree, triple_tree}
use Rattle.held_terms.specs.Terms.{AreTermsPutIn, fact_terms}
use Rattle.held_terms.specs.inner.Put.{AreFactsPut}
use Rattle.proof_text.specs.Line.{triple_or_own}
use Rattle.proof_v2.proofs.ShortOf.{short_discharged}
use Rattle.proof_v2.proofs.lines.short_discharged.Goals as goal

pub returns-clause-line : goal.returns-clause-line
returns-clause-line g c h all own fits =
    let one = c.put_facts.new.arena in
    let facts = subst (λ (fs : List Fact). AreFactsPut one c.in_ok-facts.facts (map fact_tree fs)) c.as_slice.ensures c.in_ok-facts.ensures.put in
    short_discharged h one (triple_or_own own all (triple_tree c.args.stated.now)) c.args.p c.in_ok-facts.facts fits facts

pub returns-clause-order : goal.returns-clause-order
returns-clause-order g c = subst (λ (fs : List Fact). AreTermsPutIn c.args.arena.now (flat_map fact_terms (map fact_tree fs)) c.put_facts.new.arena) c.as_slice.ensures c.in_ok-facts.ensures.order
