use Rattle.short_text.proofs.table.number_in.Given as goal

abbrev pub ghosts-counted_number : goal.ghosts-counted_number
ghosts-counted_number a = record { name = a.blank.name; parts = a.blank.parts }
