use Rattle.checker.proofs.TableDepths.{fine_beside_table}
use Rattle.checker.proofs.laws.law_of_read_lines.Goals as goal

pub returns : goal.returns
returns c = fine_beside_table
