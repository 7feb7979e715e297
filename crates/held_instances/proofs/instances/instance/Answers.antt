use Rattle.std.proofs.Common.{ℕ, List, sym, subst}
use Rattle.held_instances.specs.Image.{IsSubAt}
use Rattle.held_terms.specs.Subterms.{HasHeld}
use Rattle.held_instances.proofs.InstanceLemmas.{none_ready}
use Rattle.held_instances.proofs.ImagingLemmas.{few_images, none_asked}
use Rattle.held_instances.proofs.instances.instance.Goals as goal

pub held_image-q-requires-clause-ready : goal.held_image-q-requires-clause-ready
held_image-q-requires-clause-ready g c =
    let words_there = subst (λ (l : List (ℕ × ℕ)). IsSubAt c.args.arena.now l c.args.mems.now) (sym c.new-word_terms.ensures) c.requires.sub in
    let both_there = subst (λ (l : List (ℕ × ℕ)). IsSubAt c.args.arena.now c.new-word_terms.result l) (sym c.new-mem_terms.ensures) words_there in
    none_ready c.args.arena.now _ _ c.clear.new.self c.clear.ensures both_there

pub held_image-q-requires-clause-made : goal.held_image-q-requires-clause-made
held_image-q-requires-clause-made g c = none_asked c.clear.new.self c.clear.ensures

pub returns-clause-steps : goal.returns-clause-steps
returns-clause-steps g c ts has =
    few_images c.args.arena.now c.held_image-q.new.arena (HasHeld c.args.arena.now c.args.p.now) c.clear.new.self c.held_image-q.new.known c.args.steps.now c.held_image-q.new.steps ts
    c.clear.ensures c.law_of_nodes.ensures has c.held_image-q.ensures.imaged
