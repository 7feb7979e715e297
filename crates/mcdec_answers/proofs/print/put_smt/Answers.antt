use Rattle.mcdec_answers.proofs.Prints.{prints_answer}
use Rattle.mcdec_answers.proofs.print.put_smt.Goals as goal

pub returns-in-OverLimit : goal.returns-in-OverLimit
returns-in-OverLimit g c = rw c.in-OverLimit.is (prints_answer _ _ _ _ _ _ _ _ c.and.ensures c.put_text.ensures)

pub returns-in-Unreadable : goal.returns-in-Unreadable
returns-in-Unreadable g c = rw c.in-Unreadable.is (prints_answer _ _ _ _ _ _ _ _ c.and-in-Unreadable.ensures c.put_numbered.ensures)

pub returns-in-NoFunction : goal.returns-in-NoFunction
returns-in-NoFunction g c = rw c.in-NoFunction.is (prints_answer _ _ _ _ _ _ _ _ c.and-in-NoFunction.ensures c.put_text-in-NoFunction.ensures)

pub returns-in-Exported : goal.returns-in-Exported
returns-in-Exported g c = rw (c.in-Exported.is, ← c.from-in-Exported.ensures) (prints_answer _ _ _ _ _ _ _ _ c.and-in-Exported.ensures c.put_numbered-in-Exported.ensures)
