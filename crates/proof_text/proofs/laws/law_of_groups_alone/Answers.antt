use Rattle.proof_text.specs.LineGrammar.{whole_lines}
use Rattle.proof_text.proofs.ProofParts.{bare-text, bare-fit, bare-groups}
use Rattle.proof_text.proofs.laws.law_of_groups_alone.Goals as goal

pub returns-clause-text : goal.returns-clause-text
returns-clause-text c = bare-text whole_lines

pub returns-clause-fits : goal.returns-clause-fits
returns-clause-fits c = λ v. bare-fit whole_lines v tt

pub returns-clause-groups : goal.returns-clause-groups
returns-clause-groups c = bare-groups whole_lines
