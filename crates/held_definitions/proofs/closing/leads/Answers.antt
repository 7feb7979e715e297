use Rattle.std.proofs.Common.{map, refl}
use Rattle.std.proofs.lemmas.Result.{IfOk-weaker}
use Rattle.tailrec_lang.specs.Tree.{def_tree, group_tree}
use Rattle.held_terms.specs.Held.{fact_of, triple_of}
use Rattle.held_definitions.proofs.AskedLemmas.{begins_known, leads_facts, leads_known, stays_so}
use Rattle.held_definitions.proofs.closing.leads.Goals as goal

pub returns-then-leads-clause-answer : goal.returns-then-leads-clause-answer
returns-then-leads-clause-answer g c =
    let ns = c.args.arena.now in (
      λ yes. leads_known (group_tree c.args.g.now) (def_tree c.args.def.now) (map (fact_of ns) c.args.way.now) c.args.number c.args.asked.now (triple_of ns c.args.p.now) c.requires.known (c.leads.ensures c.if-leads.true),
      λ leads. refl,
    )

pub has_facts-requires-clause-known : goal.has_facts-requires-clause-known
has_facts-requires-clause-known g c = c.requires.known.places

pub returns-then-begins-clause-answer : goal.returns-then-begins-clause-answer
returns-then-begins-clause-answer g c =
    let ns = c.args.arena.now in
    let group = group_tree c.args.g.now in
    let def = def_tree c.args.def.now in
    let way = map (fact_of ns) c.args.way.now in
    let t = triple_of ns c.args.p.now in
    let begins = begins_known group def way c.args.number c.args.asked.now t c.requires.known (c.begins.ensures.found c.if-begins.true) in
    IfOk-weaker c.has_facts.result _ _ (λ r is. leads_facts group def way t r begins is) c.has_facts.ensures.answer

pub returns-then-begins-clause-asked : goal.returns-then-begins-clause-asked
returns-then-begins-clause-asked g c =
    let ns = c.args.arena.now in
    let group = group_tree c.args.g.now in
    let def = def_tree c.args.def.now in
    let way = map (fact_of ns) c.args.way.now in
    let t = triple_of ns c.args.p.now in
    stays_so group def way c.args.number t c.args.asked.now c.has_facts.new.asked (begins_known group def way c.args.number c.args.asked.now t c.requires.known (c.begins.ensures.found c.if-begins.true)) c.has_facts.ensures.asked
