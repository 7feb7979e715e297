use Rattle.held_definitions.specs.inner.Asked.{AreUpTo}
use Rattle.held_definitions.proofs.asked.all_up_to.Given as goal

abbrev pub invariant-loop-i : goal.invariant-loop-i
invariant-loop-i l = AreUpTo l.i l.all
