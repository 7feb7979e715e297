use Rattle.std.proofs.Common.{◌≡◌, map, take}
use Rattle.self_test.specs.Start.{given}
use Rattle.self_test.proofs.evaluation.words_given.Given as goal

abbrev pub invariant-loop-register : goal.invariant-loop-register
invariant-loop-register l = l.words ≡ map (given l.number l.size) (take l.register-index l.registers)
