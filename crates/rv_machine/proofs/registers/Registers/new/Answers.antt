use Rattle.std.proofs.Common.{refl}
use Rattle.rv_machine.proofs.StateLemmas.{zero_words}
use Rattle.rv_machine.proofs.registers.Registers.new.Goals as goal

pub invariant_of-result : goal.invariant_of-result
invariant_of-result c = record { x0 = refl; small = zero_words 32 }
