use Rattle.term_arena.proofs.arena.Arena.intern_cond.Given as goal

abbrev pub ghosts-counted_cond : goal.ghosts-counted_cond
ghosts-counted_cond a = record { name = a.blank.name; parts = a.blank.parts }
