use Rattle.std.proofs.Common.{◌≡◌, map, take}
use Rattle.mcdec_answers.specs.CommandReading.{value_in}
use Rattle.mcdec_commands.proofs.eval.arguments.Given as goal

abbrev pub invariant-loop-register : goal.invariant-loop-register
invariant-loop-register l = l.words ≡ map (value_in l.given.values) (take l.register-index l.registers)
