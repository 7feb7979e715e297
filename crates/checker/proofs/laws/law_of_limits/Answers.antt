use Rattle.checker.proofs.StatingLemmas.{left_within, line_within, none_within}
use Rattle.checker.proofs.laws.law_of_limits.Goals as goal

pub returns-clause-first : goal.returns-clause-first
returns-clause-first c = none_within

pub returns-clause-full : goal.returns-clause-full
returns-clause-full c = line_within

pub returns-clause-short : goal.returns-clause-short
returns-clause-short c = left_within
