use Rattle.held_instances.specs.Image.{put_for_numbers}
use Rattle.held_terms.proofs.GrowthLemmas.{held_still}
use Rattle.held_instances.proofs.InstanceLemmas.{is_the_instance}
use Rattle.held_instances.proofs.instances.is_instance.Goals as goal

pub same_triple-requires-clause-b : goal.same_triple-requires-clause-b
same_triple-requires-clause-b g c = held_still c.args.arena.now c.instance.new.arena c.instance.ensures.grows c.args.stated.now c.requires.stated

pub returns-clause-answer : goal.returns-clause-answer
returns-clause-answer g c =
    is_the_instance c.args.arena.now c.instance.new.arena (put_for_numbers c.args.arena.now c.args.words.now c.args.mems.now) c.args.p.now c.in_ok-put_in.put_in c.args.stated.now _
    c.instance.ensures.grows c.requires.stated c.in_ok-put_in.ensures.instance c.same_triple.ensures
