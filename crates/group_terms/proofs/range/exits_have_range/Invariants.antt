use Rattle.std.proofs.Common.{take}
use Rattle.std.specs.List.{AllByRecursion}
use Rattle.group_terms.specs.Range.{ExitInRange}
use Rattle.group_terms.proofs.range.exits_have_range.Given as goal

abbrev pub invariant-loop-exit : goal.invariant-loop-exit
invariant-loop-exit l = AllByRecursion ExitInRange (take l.exit-index l.exits)
