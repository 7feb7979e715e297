use Rattle.std.proofs.Common.{subst}
use Rattle.triple_kernel.specs.Rules.{IsInst}
use Rattle.held_terms.specs.Held.{triple_of}
use Rattle.held_instances.specs.Image.{put_for_numbers}
use Rattle.proof_text.specs.inner.OwnCode.{IsOwnCode}
use Rattle.derived_triples.proofs.ComputedLemmas.{made_one}
use Rattle.derived_triples.proofs.MakingLemmas.{fine_code}
use Rattle.derived_triples.proofs.ShortLemmas.{one_inst}
use Rattle.held_terms.proofs.SubtermLemmas.{held_at}
use Rattle.derived_triples.proofs.computed.put_in.Goals as goal

pub if_within-requires-clause-code : goal.if_within-requires-clause-code
if_within-requires-clause-code g c = subst IsOwnCode c.in_ok-h.ensures.instance.code (fine_code c.args.arena.now c.args.p.now c.requires.p)

pub returns-clause-made : goal.returns-clause-made
returns-clause-made g c =
    let old = c.args.arena.now in
    let new = c.instance.new.arena in
    let s = put_for_numbers old c.args.words.now c.args.mems.now in
    let p = triple_of old c.args.p.now in
    let u = triple_of new c.in_ok-h.h in
    made_one new (λ t. IsInst s p t) u c.in_ok-h.ensures.instance (λ t i. one_inst p t u s i c.in_ok-h.ensures.instance) c.if_within.result c.if_within.ensures

pub returns-in_err-h-clause-steps : goal.returns-in_err-h-clause-steps
returns-in_err-h-clause-steps g c = λ ts has. c.instance.ensures.steps ts (held_at ts c.args.arena.now c.args.p.now c.requires.p.there has)

pub returns-clause-steps : goal.returns-clause-steps
returns-clause-steps g c = λ ts has. c.instance.ensures.steps ts (held_at ts c.args.arena.now c.args.p.now c.requires.p.there has)
