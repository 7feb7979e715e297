use Rattle.std.proofs.Common.{List, map, flat_map, subst}
use Rattle.triple_kernel.specs.declared.triple.Fact.{Fact}
use Rattle.sep_assert.specs.Tree.{assertion_tree}
use Rattle.triple_kernel.specs.Tree.{fact_tree, triple_tree}
use Rattle.held_terms.specs.Terms.{AreTermsPutIn, assertion_terms, fact_terms}
use Rattle.held_terms.specs.inner.Put.{AreFactsPut}
use Rattle.held_terms.proofs.PutLemmas.{facts_stay}
use Rattle.held_terms.proofs.PutOrder.{terms-then}
use Rattle.proof_text.specs.Line.{triple_or_own}
use Rattle.proof_v2.proofs.ShortOf.{short_weakened}
use Rattle.proof_v2.proofs.lines.short_weakened.Goals as goal

pub returns-clause-line : goal.returns-clause-line
returns-clause-line g c h all own fits =
    let one = c.put_facts.new.arena in
    let two = c.put_side.new.arena in
    let facts = subst (λ (fs : List Fact). AreFactsPut one c.in_ok-facts.facts (map fact_tree fs)) c.as_slice.ensures c.in_ok-facts.ensures.put in
    short_weakened h two (triple_or_own own all (triple_tree c.args.stated.now)) c.args.p c.in_ok-facts.facts c.in_ok-post.post fits (facts_stay one two c.put_side.ensures.grows c.in_ok-facts.facts _ facts) c.in_ok-post.ensures.put

pub returns-clause-order : goal.returns-clause-order
returns-clause-order g c =
    let start = c.args.arena.now in
    let one = c.put_facts.new.arena in
    let two = c.put_side.new.arena in
    let stated = c.args.stated.now in
    let facts = subst (λ (fs : List Fact). AreTermsPutIn start (flat_map fact_terms (map fact_tree fs)) one) c.as_slice.ensures c.in_ok-facts.ensures.order in
    terms-then start (flat_map fact_terms (map fact_tree stated.facts)) one (assertion_terms (assertion_tree stated.post)) two facts c.in_ok-post.ensures.order
