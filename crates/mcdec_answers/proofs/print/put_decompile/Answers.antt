use Rattle.mcdec_answers.proofs.Prints.{prints_answer}
use Rattle.mcdec_answers.proofs.print.put_decompile.Goals as goal

pub returns-in-OverLimit : goal.returns-in-OverLimit
returns-in-OverLimit g c = rw c.in-OverLimit.is (prints_answer _ _ _ _ _ _ _ _ c.and.ensures c.put_text.ensures)
