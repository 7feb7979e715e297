use Rattle.held_consequence.proofs.ClassLemmas.{forms_put}
use Rattle.held_consequence.proofs.classes.class_of_variable.Goals as goal

pub returns-clause-forms : goal.returns-clause-forms
returns-clause-forms c =
    forms_put c.args.forms.now c.wanted_or_own.new.forms c.args.leaves.now c.put_leaf.new.leaves c.args.v c.in_ok-c.c c.wanted_or_own.ensures.grows c.in_ok-c.ensures.leaf c.in_ok-put_leaf.ensures c.requires.forms
