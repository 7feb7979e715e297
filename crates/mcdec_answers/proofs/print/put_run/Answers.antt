use Rattle.mcdec_answers.proofs.Prints.{prints_answer}
use Rattle.mcdec_answers.proofs.print.put_run.Goals as goal

pub returns-in-OverLimit : goal.returns-in-OverLimit
returns-in-OverLimit g c = rw c.in-OverLimit.is (prints_answer _ _ _ _ _ _ _ _ c.and.ensures c.put_text.ensures)

pub returns-in-StepsUsed : goal.returns-in-StepsUsed
returns-in-StepsUsed g c = rw c.in-StepsUsed.is (prints_answer _ _ _ _ _ _ _ _ c.and-in-StepsUsed.ensures c.put_text-in-StepsUsed.ensures)

pub returns-in-Met : goal.returns-in-Met
returns-in-Met g c = rw c.in-Met.is (prints_answer _ _ _ _ _ _ _ _ c.and-in-Met.ensures c.put_shown.ensures)
