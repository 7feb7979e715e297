use Rattle.mcdec_answers.proofs.Prints.{prints_answer}
use Rattle.mcdec_answers.proofs.print.put_answer.Goals as goal

pub returns-in-WriteFault : goal.returns-in-WriteFault
returns-in-WriteFault g c = rw c.in-WriteFault.is (prints_answer _ _ _ _ _ _ _ _ c.and-in-WriteFault.ensures c.put_text-in-WriteFault.ensures)

pub returns-in-NoMemory : goal.returns-in-NoMemory
returns-in-NoMemory g c = rw c.in-NoMemory.is (prints_answer _ _ _ _ _ _ _ _ c.and-in-NoMemory.ensures c.put_text-in-NoMemory.ensures)
