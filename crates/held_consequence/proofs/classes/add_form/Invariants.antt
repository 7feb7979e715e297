use Rattle.held_consequence.proofs.classes.add_form.Given as goal

abbrev pub ghosts-counted_form : goal.ghosts-counted_form
ghosts-counted_form a = record { name = a.blank.name; parts = a.blank.parts }
