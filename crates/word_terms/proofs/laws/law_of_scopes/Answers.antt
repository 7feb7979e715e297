use Rattle.word_terms.proofs.Agreement.{word_value-extends, mem_value-extends, cond_holds-extends, extends-with_words, extends-with_mems}
use Rattle.word_terms.proofs.laws.law_of_scopes.Goals as goal

pub returns : goal.returns
returns c = record {
  word = λ e f t more scope. word_value-extends e f more t scope;
  mem = λ e f t more scope. mem_value-extends e f more t scope;
  cond = λ e f t more scope. cond_holds-extends e f more t scope;
  more_words = extends-with_words;
  more_mems = extends-with_mems;
}
