use Rattle.std.proofs.Common.{rules, map}
use Rattle.tailrec_lang.specs.Tree.{def_tree, group_tree}
use Rattle.held_definitions.specs.Theorems.{theorem_at}
use Rattle.held_definitions.proofs.LeafLemmas.{closed_by, first_none, grown}
use Rattle.held_definitions.proofs.LeafSteps.{closing_steps}
use Rattle.held_definitions.proofs.closing.is_closed_by.Goals as goal

pub cite_for_leaves-requires-clause-ready : goal.cite_for_leaves-requires-clause-ready
cite_for_leaves-requires-clause-ready g c = record { held = c.requires.held; marked = c.requires.marked; first = first_none c.args.arena.now c.new-put.result c.new-way.result c.new-put.ensures c.new-way.ensures; asked = c.new-asked.ensures _ _ }

pub returns-clause-answer : goal.returns-clause-answer
returns-clause-answer g c =
    closed_by (group_tree c.args.g.now) c.args.def (map (theorem_at c.args.arena.now c.args.held.now.entries) c.args.cited.now) (def_tree c.in-Some.d.now) c.in_ok-led.led c.in-Some.ensures.some
    (λ t. c.cite_for_leaves.ensures.led (c.in_ok-led.ensures.led t)) (λ f. c.cite_for_leaves.ensures.not_led (c.in_ok-led.ensures.not_led f))

pub returns-clause-grows : goal.returns-clause-grows
returns-clause-grows g c =
    let grew = grown _ _ _ c.cite_for_leaves.ensures.went in
    let place = grew.arena in
    let grows = grew.grows in
    search (rules, place, grows)

pub returns-clause-steps : goal.returns-clause-steps
returns-clause-steps g c =
    let grew = grown _ _ _ c.cite_for_leaves.ensures.went in
    let place = grew.steps in
    let few = closing_steps (group_tree c.args.g.now) c.args.def (def_tree c.in-Some.d.now) c.args.steps.now c.cite_for_leaves.new.judge.steps.now c.in-Some.ensures.some c.cite_for_leaves.ensures.went.steps in
    search (rules, place, few)

pub returns-in_err-led-clause-grows : goal.returns-in_err-led-clause-grows
returns-in_err-led-clause-grows g c =
    let grew = grown _ _ _ c.cite_for_leaves.ensures.went in
    let place = grew.arena in
    let grows = grew.grows in
    search (rules, place, grows)

pub returns-in_err-led-clause-steps : goal.returns-in_err-led-clause-steps
returns-in_err-led-clause-steps g c =
    let grew = grown _ _ _ c.cite_for_leaves.ensures.went in
    let place = grew.steps in
    let few = closing_steps (group_tree c.args.g.now) c.args.def (def_tree c.in-Some.d.now) c.args.steps.now c.cite_for_leaves.new.judge.steps.now c.in-Some.ensures.some c.cite_for_leaves.ensures.went.steps in
    search (rules, place, few)
