use Rattle.held_consequence.proofs.ClassLemmas.{narrows_all}
use Rattle.held_consequence.proofs.candidates.gather.Goals as goal

pub returns : goal.returns
returns c =
    narrows_all c.args.arena.now c.args.others.now c.args.forms.now c.args.leaves.now c.args.classes c.requires.others c.law_of_nodes-2.ensures c.requires.classed c.list_all.new.lists (c.are_agreed.ensures c.if-not-are_agreed.false) c.in_ok-all.ensures.from (c.in_ok-all.ensures.all c.if-not-all.false)
