use Rattle.sep_assert.proofs.Parted.{registers-parted, mems-append}
use Rattle.sep_assert.proofs.laws.law_of_lists.Goals as goal

pub returns : goal.returns
returns c = record { registers = registers-parted; mems = mems-append }
