use Rattle.word_terms.proofs.Agreement.{word_value-agree, mem_value-agree, cond_holds-agree}
use Rattle.word_terms.proofs.laws.law_of_agreement.Goals as goal

pub returns : goal.returns
returns c = record { word = word_value-agree; mem = mem_value-agree; cond = cond_holds-agree }
