-- The scripts' lemmas.
use Rattle.smt_export.proofs.Outcomes.{script_tells}
use Rattle.smt_export.proofs.Listed.{script-has}
use Rattle.smt_export.proofs.SortedScripts.{script-is}
use Rattle.smt_export.proofs.laws.law_of_scripts.Goals as goal

pub returns-clause-script : goal.returns-clause-script
returns-clause-script c = λ g test d range closed. script-is g test range closed d

pub returns-clause-sorts : goal.returns-clause-sorts
returns-clause-sorts c = script-has

pub returns-clause-tells : goal.returns-clause-tells
returns-clause-tells c = script_tells
