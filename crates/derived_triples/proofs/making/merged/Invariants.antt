use Rattle.std.proofs.Common.{◌+◌, ◌-◌, length}
use Rattle.derived_triples.proofs.Merging.{Merged}
use Rattle.derived_triples.proofs.making.merged.Given as goal

abbrev pub invariant-loop-i : goal.invariant-loop-i
invariant-loop-i l = Merged l.a l.b l.i l.j l.all

abbrev pub decreases-loop-i : goal.decreases-loop-i
decreases-loop-i l = (length l.a - l.i) + (length l.b - l.j)
