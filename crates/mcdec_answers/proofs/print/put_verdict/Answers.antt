use Rattle.mcdec_answers.proofs.Prints.{prints_answer}
use Rattle.mcdec_answers.proofs.print.put_verdict.Goals as goal

pub returns-in-BadLine : goal.returns-in-BadLine
returns-in-BadLine g c = rw c.in-BadLine.is (prints_answer _ _ _ _ _ _ _ _ c.and-in-BadLine.ensures c.put_numbered-in-BadLine.ensures)
