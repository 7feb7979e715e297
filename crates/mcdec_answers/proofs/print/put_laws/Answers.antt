use Rattle.mcdec_answers.proofs.Prints.{prints_answer}
use Rattle.mcdec_answers.proofs.print.put_laws.Goals as goal

pub returns-in-ProofOverLimit : goal.returns-in-ProofOverLimit
returns-in-ProofOverLimit g c = rw c.in-ProofOverLimit.is (prints_answer _ _ _ _ _ _ _ _ c.and.ensures c.put_text.ensures)

pub returns-in-CertOverLimit : goal.returns-in-CertOverLimit
returns-in-CertOverLimit g c = rw c.in-CertOverLimit.is (prints_answer _ _ _ _ _ _ _ _ c.and-in-CertOverLimit.ensures c.put_text-in-CertOverLimit.ensures)

pub returns-in-Unreadable : goal.returns-in-Unreadable
returns-in-Unreadable g c = rw c.in-Unreadable.is (prints_answer _ _ _ _ _ _ _ _ c.and-in-Unreadable.ensures c.put_numbered.ensures)

pub returns-in-NoFunction : goal.returns-in-NoFunction
returns-in-NoFunction g c = rw c.in-NoFunction.is (prints_answer _ _ _ _ _ _ _ _ c.and-in-NoFunction.ensures c.put_text-in-NoFunction.ensures)

pub returns-in-BadStep : goal.returns-in-BadStep
returns-in-BadStep g c = rw c.in-BadStep.is (prints_answer _ _ _ _ _ _ _ _ c.and-in-BadStep.ensures c.put_numbered-in-BadStep.ensures)

pub returns-in-OtherResult : goal.returns-in-OtherResult
returns-in-OtherResult g c = rw c.in-OtherResult.is (prints_answer _ _ _ _ _ _ _ _ c.and-in-OtherResult.ensures c.put_text-in-OtherResult.ensures)

pub returns-in-Accepted : goal.returns-in-Accepted
returns-in-Accepted g c = rw c.in-Accepted.is (prints_answer _ _ _ _ _ _ _ _ c.and-in-Accepted.ensures c.put_numbered-in-Accepted.ensures)
