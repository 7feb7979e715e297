use Rattle.stack_offsets.proofs.RunLemmas.{offset_held}
use Rattle.stack_offsets.proofs.laws.law_of_offsets.Goals as goal

pub returns : goal.returns
returns c = offset_held
