use Rattle.std.proofs.Common.{take}
use Rattle.code_parts.specs.Groups.{AreCodeOfAll}
use Rattle.code_parts.proofs.code.code_of_all.Given as goal

abbrev pub invariant-loop-function : goal.invariant-loop-function
invariant-loop-function l = AreCodeOfAll (take l.function-index l.functions) l.code.ranges
