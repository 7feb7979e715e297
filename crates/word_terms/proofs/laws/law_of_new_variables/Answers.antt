use Rattle.word_terms.proofs.Variables.{with_words-words, with_mems-mems, with_mems-words, with_words-mems, with_mems-word, with_words-mem, words-are, mems-are}
use Rattle.word_terms.proofs.laws.law_of_new_variables.Goals as goal

pub returns : goal.returns
returns c = record {
  words = with_words-words;
  mems = with_mems-mems;
  same_words = with_mems-words;
  same_mems = with_words-mems;
  word = with_mems-word;
  mem = with_words-mem;
  new_words = words-are;
  new_mems = mems-are;
}
