use Rattle.rv_machine.proofs.access.+first_absent.Given as goal

abbrev pub decreases-first_absent : goal.decreases-first_absent
decreases-first_absent l = l.n
