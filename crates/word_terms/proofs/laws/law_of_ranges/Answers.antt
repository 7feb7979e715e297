use Rattle.word_terms.proofs.Ranges.{word_in_range, mem_in_range}
use Rattle.word_terms.proofs.laws.law_of_ranges.Goals as goal

pub returns : goal.returns
returns c = record {
  word = λ e t range words. word_in_range e range t words;
  address = λ e t a b range is. (mem_in_range e range t a b is).0;
  byte = λ e t a b range is. (mem_in_range e range t a b is).1;
}
