use Rattle.term_arena.proofs.arena.Arena.intern_word.Given as goal

abbrev pub ghosts-counted_word : goal.ghosts-counted_word
ghosts-counted_word a = record { name = a.blank.name; parts = a.blank.parts }
