use Rattle.sep_assert.proofs.Keys.{part-pc, part-register, part-byte}
use Rattle.sep_assert.proofs.laws.law_of_keys.Goals as goal

pub returns : goal.returns
returns c = record { pc = part-pc; register = part-register; byte = part-byte }
