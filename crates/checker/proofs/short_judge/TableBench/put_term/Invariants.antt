use Rattle.checker.proofs.short_judge.TableBench.put_term.Given as goal

abbrev pub ghosts-add_counted : goal.ghosts-add_counted
ghosts-add_counted a = record { name = a.blank.name; parts = a.blank.parts }
