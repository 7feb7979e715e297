use Rattle.held_consequence.specs.inner.Following.{HasBothFacts}
use Rattle.held_consequence.proofs.FindLemmas.{few_searched}
use Rattle.held_consequence.proofs.candidates.classify.Goals as goal

pub returns-in_err-see_both-clause-steps : goal.returns-in_err-see_both-clause-steps
returns-in_err-see_both-clause-steps g c =
    λ ts one two. few_searched c.args.arena.now (HasBothFacts c.args.arena.now c.args.facts.now c.args.others.now) ts c.new-classes.result c.see_both.new.classes c.args.steps.now c.see_both.new.steps c.law_of_nodes.ensures (one, two) c.new-classes.ensures.empty c.new-classes.ensures.ordered c.see_both.ensures.searched

pub returns-clause-steps : goal.returns-clause-steps
returns-clause-steps g c =
    λ ts one two. few_searched c.args.arena.now (HasBothFacts c.args.arena.now c.args.facts.now c.args.others.now) ts c.new-classes.result c.see_both.new.classes c.args.steps.now c.see_both.new.steps c.law_of_nodes.ensures (one, two) c.new-classes.ensures.empty c.new-classes.ensures.ordered c.see_both.ensures.searched
