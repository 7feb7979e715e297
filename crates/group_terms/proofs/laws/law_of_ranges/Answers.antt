use Rattle.group_terms.proofs.Ranges.{in_range-none, in_range-with, in_range-with_mem, in_range-with_word, memory, values_in_range}
use Rattle.group_terms.proofs.laws.law_of_ranges.Goals as goal

pub returns : goal.returns
returns c = record {
  none = in_range-none;
  word = λ e n r h. in_range-with_word e r n h;
  mem = λ e m r h. in_range-with_mem e r m h;
  arguments = λ e x r h. in_range-with e x r h;
  memory = λ e m r. memory e r m;
  values = λ e v r h. values_in_range e r v h;
}
