use Rattle.text_tests.proofs.tests.theorems.line_is_kept.Given as goal

abbrev pub ghosts-is_kept : goal.ghosts-is_kept
ghosts-is_kept a = record { name = a.blank.name; parts = a.blank.parts }
