use Rattle.std.proofs.Common.{◌≡◌, ◌+◌, ◌≤◌, List, [], ◌∷◌, flat_map, map, refl, sym, ap, ◌∙◌, subst, arith, IsTrue}
use Rattle.std.specs.Prelude.{◌↔◌, IfOk}
use Rattle.tailrec_lang.specs.Tree.{def_tree, group_tree}
use Rattle.sep_assert.specs.Tree.{assertion_tree}
use Rattle.triple_kernel.specs.declared.triple.Fact.{Fact}
use Rattle.triple_kernel.specs.Tree.{fact_tree}
use Rattle.held_terms.specs.declared.held.HeldFact.{HeldFact}
use Rattle.held_terms.specs.Held.{fact_of}
use Rattle.held_terms.proofs.GrowthLemmas.{extends_next}
use Rattle.loop_rule.specs.Tree.{LeafTree, leaf_with}
use Rattle.loop_rule.specs.Rule.{IsLedTo}
use Rattle.held_definitions.specs.Theorems.{theorem_at}
use Rattle.held_terms.specs.Terms.{fact_terms, nodes_of}
use Rattle.held_definitions.specs.inner.Leaves.{AreFirstOf, leaf_over}
use Rattle.held_definitions.proofs.TheoremLemmas.{held_stay, theorems_stay}
use Rattle.held_terms.proofs.PutLemmas.{facts_stay}
use Rattle.held_definitions.proofs.AskedLemmas.{asked_put}
use Rattle.held_definitions.proofs.LeafLemmas.{first_still, held_went, leaf_put}
use Rattle.held_definitions.proofs.LeafSteps.{leaf_steps}
use Rattle.held_definitions.proofs.closing.HeldLeavesJudgeLeaves.is_led.Goals as goal

pub put_way-requires : goal.put_way-requires
put_way-requires g c = subst (λ (fs : List Fact). AreFirstOf c.args.self.now.arena.now c.args.self.now.put.now (map fact_tree fs)) (sym c.as_slice.ensures) c.requires.first

pub led_by-requires-clause-held : goal.led_by-requires-clause-held
led_by-requires-clause-held g c =
    let old = c.args.self.now in
    held_stay old.arena.now c.put_side.new.arena (extends_next old.arena.now c.put_way.new.arena c.put_side.new.arena c.put_way.ensures.grows c.put_side.ensures.grows) old.held.now.entries c.requires.held

pub led_by-requires-clause-marked : goal.led_by-requires-clause-marked
led_by-requires-clause-marked g c = c.requires.marked

pub led_by-requires-clause-way : goal.led_by-requires-clause-way
led_by-requires-clause-way g c = (facts_stay c.put_way.new.arena c.put_side.new.arena c.put_side.ensures.grows c.put_way.new.put _ c.in_ok-put_way.ensures.all).at

pub led_by-requires-clause-asked : goal.led_by-requires-clause-asked
led_by-requires-clause-asked g c =
    let old = c.args.self.now in
    let one = c.put_way.new.arena in
    let two = c.put_side.new.arena in
    let all = facts_stay one two c.put_side.ensures.grows c.put_way.new.put (map fact_tree c.as_slice.result.now) c.in_ok-put_way.ensures.all in
    asked_put (group_tree old.group.now) (def_tree old.def.now) (theorem_at old.arena.now old.held.now.entries) (theorem_at two old.held.now.entries) (map fact_tree old.way.now) (map (fact_of two) c.put_way.new.put) old.asked.now
    (theorems_stay old.arena.now two (extends_next old.arena.now one two c.put_way.ensures.grows c.put_side.ensures.grows) old.held.now.entries c.requires.held)
    (all.is ∙ ap (map fact_tree) c.as_slice.ensures) c.requires.asked

pub led_by-requires-clause-post : goal.led_by-requires-clause-post
led_by-requires-clause-post g c = c.in_ok-end.ensures.put.at

pub returns-clause-answer : goal.returns-clause-answer
returns-clause-answer g c =
    let old = c.args.self.now in
    let one = c.put_way.new.arena in
    let two = c.put_side.new.arena in
    let group = group_tree old.group.now in
    let def = def_tree old.def.now in
    let all = facts_stay one two c.put_side.ensures.grows c.put_way.new.put (map fact_tree c.as_slice.result.now) c.in_ok-put_way.ensures.all in
    let leaf : leaf_over two c.put_way.new.put c.in_ok-end.end ≡ leaf_with (map fact_tree old.way.now) c.args.post.now =
    leaf_put two c.put_way.new.put c.in_ok-end.end (map fact_tree c.as_slice.result.now) (assertion_tree c.args.post.now) all c.in_ok-end.ensures.put
    ∙ (λ i. record { facts = map fact_tree (c.as_slice.ensures i); post = assertion_tree c.args.post.now }) in
    let theorem : theorem_at two old.held.now.entries ≡ theorem_at old.arena.now old.held.now.entries = theorems_stay old.arena.now two (extends_next old.arena.now one two c.put_way.ensures.grows c.put_side.ensures.grows) old.held.now.entries c.requires.held in
    subst (λ f. IfOk c.led_by.result (λ r. IsTrue r ↔ IsLedTo group def (leaf_with (map fact_tree old.way.now) c.args.post.now) (f c.args.number))) theorem
    (subst (λ (l : LeafTree). IfOk c.led_by.result (λ r. IsTrue r ↔ IsLedTo group def l (theorem_at two old.held.now.entries c.args.number))) leaf c.led_by.ensures.answer)

pub returns-in_err-put_way-clause-went : goal.returns-in_err-put_way-clause-went
returns-in_err-put_way-clause-went g c =
    let old = c.args.self.now in
    let ways = sym (c.as_slice.ensures) in
    let few : c.put_way.new.steps ≤ old.steps.now + nodes_of (flat_map fact_terms (map fact_tree old.way.now)) =
    subst (λ (fs : List Fact). c.put_way.new.steps ≤ old.steps.now + nodes_of (flat_map fact_terms (map fact_tree fs))) c.as_slice.ensures c.put_way.ensures.steps in
    held_went (leaf_with (map fact_tree old.way.now) c.args.post.now ∷ []) old _ refl refl refl (record { arena = refl; grows = c.put_way.ensures.grows; steps = refl }) c.requires
    (record {
      held = held_stay old.arena.now c.put_way.new.arena c.put_way.ensures.grows old.held.now.entries c.requires.held;
      marked = c.requires.marked;
      first = subst (λ (fs : List Fact). AreFirstOf c.put_way.new.arena c.put_way.new.put (map fact_tree fs)) c.as_slice.ensures c.put_way.ensures.first;
      asked = asked_put (group_tree old.group.now) (def_tree old.def.now) (theorem_at old.arena.now old.held.now.entries) (theorem_at c.put_way.new.arena old.held.now.entries) (map fact_tree old.way.now) (map fact_tree old.way.now) old.asked.now
          (theorems_stay old.arena.now c.put_way.new.arena c.put_way.ensures.grows old.held.now.entries c.requires.held) refl c.requires.asked;
    })
    (leaf_steps (group_tree old.group.now) (def_tree old.def.now) (leaf_with (map fact_tree old.way.now) c.args.post.now) old.steps.now c.put_way.new.steps c.put_way.new.steps c.put_way.new.steps few (omega arith) (omega arith))

pub returns-in_err-end-clause-went : goal.returns-in_err-end-clause-went
returns-in_err-end-clause-went g c =
    let old = c.args.self.now in
    let grows = extends_next old.arena.now c.put_way.new.arena c.put_side.new.arena c.put_way.ensures.grows c.put_side.ensures.grows in
    let few : c.put_way.new.steps ≤ old.steps.now + nodes_of (flat_map fact_terms (map fact_tree old.way.now)) =
    subst (λ (fs : List Fact). c.put_way.new.steps ≤ old.steps.now + nodes_of (flat_map fact_terms (map fact_tree fs))) c.as_slice.ensures c.put_way.ensures.steps in
    held_went (leaf_with (map fact_tree old.way.now) c.args.post.now ∷ []) old _ refl refl refl (record { arena = refl; grows = grows; steps = refl }) c.requires
    (record {
      held = held_stay old.arena.now c.put_side.new.arena grows old.held.now.entries c.requires.held;
      marked = c.requires.marked;
      first = first_still c.put_way.new.arena c.put_side.new.arena c.put_way.new.put (map fact_tree old.way.now) c.put_side.ensures.grows
          (subst (λ (fs : List Fact). AreFirstOf c.put_way.new.arena c.put_way.new.put (map fact_tree fs)) c.as_slice.ensures c.put_way.ensures.first);
      asked = asked_put (group_tree old.group.now) (def_tree old.def.now) (theorem_at old.arena.now old.held.now.entries) (theorem_at c.put_side.new.arena old.held.now.entries) (map fact_tree old.way.now) (map fact_tree old.way.now) old.asked.now
          (theorems_stay old.arena.now c.put_side.new.arena grows old.held.now.entries c.requires.held) refl c.requires.asked;
    })
    (leaf_steps (group_tree old.group.now) (def_tree old.def.now) (leaf_with (map fact_tree old.way.now) c.args.post.now) old.steps.now c.put_way.new.steps c.put_side.new.steps c.put_side.new.steps few c.put_side.ensures.steps (omega arith))

pub returns-clause-went : goal.returns-clause-went
returns-clause-went g c =
    let old = c.args.self.now in
    let two = c.put_side.new.arena in
    let all = facts_stay c.put_way.new.arena two c.put_side.ensures.grows c.put_way.new.put (map fact_tree c.as_slice.result.now) c.in_ok-put_way.ensures.all in
    let grows = extends_next old.arena.now c.put_way.new.arena c.put_side.new.arena c.put_way.ensures.grows c.put_side.ensures.grows in
    let few : c.put_way.new.steps ≤ old.steps.now + nodes_of (flat_map fact_terms (map fact_tree old.way.now)) =
    subst (λ (fs : List Fact). c.put_way.new.steps ≤ old.steps.now + nodes_of (flat_map fact_terms (map fact_tree fs))) c.as_slice.ensures c.put_way.ensures.steps in
    held_went (leaf_with (map fact_tree old.way.now) c.args.post.now ∷ []) old _ refl refl refl (record { arena = refl; grows = grows; steps = refl }) c.requires
    (record {
      held = held_stay old.arena.now c.put_side.new.arena grows old.held.now.entries c.requires.held;
      marked = c.requires.marked;
      first = subst (λ (fs : List HeldFact). AreFirstOf c.put_side.new.arena fs (map fact_tree old.way.now)) (sym c.led_by.ensures.way)
          (first_still c.put_way.new.arena c.put_side.new.arena c.put_way.new.put (map fact_tree old.way.now) c.put_side.ensures.grows
          (subst (λ (fs : List Fact). AreFirstOf c.put_way.new.arena c.put_way.new.put (map fact_tree fs)) c.as_slice.ensures c.put_way.ensures.first));
      asked = asked_put (group_tree old.group.now) (def_tree old.def.now) (theorem_at two old.held.now.entries) (theorem_at two old.held.now.entries) (map (fact_of two) c.put_way.new.put) (map fact_tree old.way.now) c.led_by.new.asked
          refl (sym (all.is ∙ ap (map fact_tree) c.as_slice.ensures)) c.led_by.ensures.asked;
    })
    (leaf_steps (group_tree old.group.now) (def_tree old.def.now) (leaf_with (map fact_tree old.way.now) c.args.post.now) old.steps.now c.put_way.new.steps c.put_side.new.steps c.led_by.new.steps few c.put_side.ensures.steps c.led_by.ensures.steps)
