use Rattle.word_terms.proofs.Substitutions.{word_value-put_in, mem_value-put_in, cond_holds-put_in}
use Rattle.word_terms.proofs.laws.law_of_substitution.Goals as goal

pub returns : goal.returns
returns c = record { word = word_value-put_in; mem = mem_value-put_in; cond = cond_holds-put_in }
