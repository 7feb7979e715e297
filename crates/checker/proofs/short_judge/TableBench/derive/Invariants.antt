use Rattle.checker.proofs.short_judge.TableBench.derive.Given as goal

abbrev pub ghosts-derive_counted : goal.ghosts-derive_counted
ghosts-derive_counted a = record { name = a.blank.name; parts = a.blank.parts }
