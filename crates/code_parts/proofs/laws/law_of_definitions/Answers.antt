use Rattle.code_parts.proofs.Groups.{group-formed}
use Rattle.code_parts.proofs.laws.law_of_definitions.Goals as goal

pub returns : goal.returns
returns c = λ f g parts graph made. group-formed f g parts graph made
