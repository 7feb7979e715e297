use Rattle.sep_assert.proofs.Parted.{union-left, union-over, union-pairs}
use Rattle.sep_assert.proofs.laws.law_of_groupings.Goals as goal

pub returns : goal.returns
returns c = record { second_first = union-left; to_the_rest = union-over; pairs = union-pairs }
