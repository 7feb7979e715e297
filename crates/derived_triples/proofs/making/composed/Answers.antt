use Rattle.std.proofs.Common.{List, map, subst}
use Rattle.held_terms.specs.Held.{fact_of}
use Rattle.held_terms.specs.declared.held.HeldFact.{HeldFact}
use Rattle.derived_triples.specs.inner.Making.{AreFactsOfBoth}
use Rattle.derived_triples.proofs.CodeBytes.{joined_own}
use Rattle.derived_triples.proofs.MakingLemmas.{composed_made, fine_code}
use Rattle.derived_triples.proofs.making.composed.Goals as goal

pub returns : goal.returns
returns c =
    let ns = c.args.arena.now in
    let p = c.args.p.now in
    let q = c.args.q.now in
    let facts = c.in_ok-facts.facts in
    let code = c.in_ok-code.code in
    let both = subst (λ (l : List HeldFact). AreFactsOfBoth (map (fact_of ns) p.facts) (map (fact_of ns) l) (map (fact_of ns) facts)) c.as_slice.ensures c.in_ok-facts.ensures.both in
    composed_made ns p q (record { facts = facts; pre = c.in_ok-pre.pre; code = code; post = c.in_ok-post.post }) c.requires.p c.requires.q
    (c.same_side.ensures.0 c.if-not-same_side.false) (c.have_agreement.ensures.0 c.if-not-have_agreement.false) both c.in_ok-facts.ensures.fine c.in_ok-pre.ensures c.in_ok-code.ensures.bytes
    (joined_own p.code.ranges q.code.ranges code.ranges (fine_code ns p c.requires.p) (fine_code ns q c.requires.q) c.in_ok-code.ensures.ranges c.in_ok-code.ensures.bytes) c.in_ok-post.ensures
