use Rattle.checker.proofs.LargerTables.{fine_grows, instance_grows, left_of_table, right_grows}
use Rattle.checker.proofs.laws.law_of_larger_tables.Goals as goal

pub returns-clause-fine : goal.returns-clause-fine
returns-clause-fine c = fine_grows

pub returns-clause-instance : goal.returns-clause-instance
returns-clause-instance c = instance_grows

pub returns-clause-left : goal.returns-clause-left
returns-clause-left c = left_of_table

pub returns-clause-full : goal.returns-clause-full
returns-clause-full c = right_grows
