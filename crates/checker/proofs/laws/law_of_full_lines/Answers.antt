use Rattle.checker.proofs.StatingLemmas.{full_lines, lines_within}
use Rattle.checker.proofs.laws.law_of_full_lines.Goals as goal

pub returns-clause-full : goal.returns-clause-full
returns-clause-full c = full_lines

pub returns-clause-within : goal.returns-clause-within
returns-clause-within c = lines_within
