use Rattle.word_terms.proofs.LargerScopes.{word_in_scope-more, mem_in_scope-more, cond_in_scope-more}
use Rattle.word_terms.proofs.laws.law_of_larger_scopes.Goals as goal

pub returns : goal.returns
returns c = record {
  word = λ t words mems w m more_words more_mems scope. word_in_scope-more words mems w m more_words more_mems t scope;
  mem = λ t words mems w m more_words more_mems scope. mem_in_scope-more words mems w m more_words more_mems t scope;
  cond = λ t words mems w m more_words more_mems scope. cond_in_scope-more words mems w m more_words more_mems t scope;
}
