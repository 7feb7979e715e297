use Rattle.std.proofs.Common.{length}
use Rattle.held_definitions.specs.inner.Asked.{IsParted}
use Rattle.held_definitions.proofs.asked.take_gone.Given as goal

abbrev pub invariant-loop-places : goal.invariant-loop-places
invariant-loop-places l = IsParted l.fn.places l.places l.gone

abbrev pub decreases-loop-places : goal.decreases-loop-places
decreases-loop-places l = length l.places.entries
