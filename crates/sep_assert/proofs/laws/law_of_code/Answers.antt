use Rattle.sep_assert.proofs.JoinLemmas.{range_bytes-append}
use Rattle.sep_assert.proofs.SameCode.{same_ranges}
use Rattle.sep_assert.proofs.Parted.{code-within, agree-within, within-first, within-second}
use Rattle.sep_assert.proofs.laws.law_of_code.Goals as goal

pub returns : goal.returns
returns c = record {
  rest = code-within;
  append = range_bytes-append;
  same = same_ranges;
  agree = agree-within;
  first = within-first;
  second = within-second;
}
