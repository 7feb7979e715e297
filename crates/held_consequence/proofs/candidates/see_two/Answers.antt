use Rattle.held_consequence.proofs.ClassLemmas.{class_wanted, kind_within}
use Rattle.held_consequence.proofs.candidates.see_two.Goals as goal

pub class_of-requires-clause-there : goal.class_of-requires-clause-there
class_of-requires-clause-there g c = (kind_within c.args.arena.now c.args.a c.args.b c.requires.kind).0

pub class_of-requires-2-clause-there : goal.class_of-requires-2-clause-there
class_of-requires-2-clause-there g c = (kind_within c.args.arena.now c.args.a c.args.b c.requires.kind).1

pub class_of-requires-2-clause-wanted : goal.class_of-requires-2-clause-wanted
class_of-requires-2-clause-wanted g c =
    class_wanted c.args.arena.now c.class_of.new.forms c.class_of.new.leaves c.args.a c.args.b c.in_ok-first.first c.in_ok-first.ensures.seen.ready c.requires.kind c.in_ok-first.ensures.class
