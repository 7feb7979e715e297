use Rattle.proof_v2.proofs.texts.put_proof.Given as goal

abbrev pub ghosts-put_counted : goal.ghosts-put_counted
ghosts-put_counted a = record { name = a.blank.name; parts = a.blank.parts }
