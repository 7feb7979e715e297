use Rattle.smt_terms.proofs.HelperValues.{helpers-know}
use Rattle.smt_terms.proofs.SortedHelpers.{helpers-are, helpers-know_rules}
use Rattle.smt_terms.proofs.laws.law_of_helpers.Goals as goal

pub returns-clause-script : goal.returns-clause-script
returns-clause-script c = helpers-are

pub returns-clause-values : goal.returns-clause-values
returns-clause-values c = helpers-know

pub returns-clause-sorts : goal.returns-clause-sorts
returns-clause-sorts c = helpers-know_rules
