use Rattle.mcdec_answers.proofs.Prints.{prints_answer}
use Rattle.mcdec_answers.proofs.print.put_migrate.Goals as goal

pub returns-in-ElfOverLimit : goal.returns-in-ElfOverLimit
returns-in-ElfOverLimit g c = rw c.in-ElfOverLimit.is (prints_answer _ _ _ _ _ _ _ _ c.and.ensures c.put_text.ensures)

pub returns-in-ProofOverLimit : goal.returns-in-ProofOverLimit
returns-in-ProofOverLimit g c = rw c.in-ProofOverLimit.is (prints_answer _ _ _ _ _ _ _ _ c.and-in-ProofOverLimit.ensures c.put_text-in-ProofOverLimit.ensures)

pub returns-in-Migrated : goal.returns-in-Migrated
returns-in-Migrated g c = rw c.in-Migrated.is (prints_answer _ _ _ _ _ _ _ _ c.and-in-Migrated.ensures c.put_two_numbered.ensures)
