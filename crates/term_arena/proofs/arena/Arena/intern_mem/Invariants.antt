use Rattle.term_arena.proofs.arena.Arena.intern_mem.Given as goal

abbrev pub ghosts-counted_mem : goal.ghosts-counted_mem
ghosts-counted_mem a = record { name = a.blank.name; parts = a.blank.parts }
