use Rattle.code_gen.proofs.CodeLemmas.{program-decodes, program-few}
use Rattle.code_gen.proofs.laws.law_of_words.Goals as goal

pub returns-clause-decodes : goal.returns-clause-decodes
returns-clause-decodes c = program-decodes

pub returns-clause-few : goal.returns-clause-few
returns-clause-few c = program-few
