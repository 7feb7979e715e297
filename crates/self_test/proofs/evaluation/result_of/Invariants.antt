use Rattle.std.proofs.Common.{◌≡◌, drop}
use Rattle.self_test.specs.Results.{result_of}
use Rattle.self_test.proofs.evaluation.result_of.Given as goal

abbrev pub invariant-loop-i : goal.invariant-loop-i
invariant-loop-i l = result_of l.register (drop l.i l.registers) (drop l.i l.words) l.before ≡ result_of l.register l.registers l.words l.before
