use Rattle.std.proofs.Common.{◌≡◌, take}
use Rattle.proof_v2.proofs.lines.copy_numbers.Given as goal

abbrev pub invariant-loop-number : goal.invariant-loop-number
invariant-loop-number l = l.copies ≡ take l.number-index l.numbers
