use Rattle.std.proofs.Common.{subst}
use Rattle.mc_shelf.specs.Fault.{Rose}
use Rattle.mcdec_answers.specs.Command.{Laws}
use Rattle.mcdec_answers.specs.declared.answer.Answer.TheVariants as answer
use Rattle.mcdec_answers.specs.declared.answer.LawsAnswer.TheVariants as la
use Rattle.mcdec_commands.specs.Answer.{Gives}
use Rattle.mcdec_commands.specs.EvalAnswer.{proof_limit}
use Rattle.mcdec_commands.specs.inner.Judging.{CertGives}
use Rattle.mcdec_answers.proofs.Prints.{rose-later}
use Rattle.mcdec_commands.proofs.Checking.{two-files}
use Rattle.mcdec_commands.proofs.Judging.{cert-gives}
use Rattle.mcdec_commands.proofs.Loading.{unread, unread-so}
use Rattle.mcdec_commands.proofs.laws.answer_laws.Goals as goal

pub returns-in-Err-clause-gives : goal.returns-in-Err-clause-gives
returns-in-Err-clause-gives g c ws is =
    let l = c.args.l.now in
    let told = g.S.Shelf.contents c.args.shelf.now in
    let rose = Rose (g.S.Shelf.read_faults c.args.shelf.now) (g.S.Shelf.read_faults c.read_file.new.shelf) in
    let wrote = Rose (g.S.Shelf.write_faults c.args.shelf.now) (g.S.Shelf.write_faults c.read_file.new.shelf) in
    unread-so told l.proof.now rose (Gives told ws rose wrote) (λ rises. (Laws l.proof.now l.cert.now, is, two-files l.proof.now l.cert.now, rises)) tt (answer.Laws la.ProofOverLimit) proof_limit
    (λ long. (l.proof.now, l.cert.now, is, long)) c.in-Err.end (unread told l.proof.now rose proof_limit c.read_file.result c.in-Err.end c.in-Err.is c.read_file.ensures.cause c.read_file.ensures.too_long)
    c.not_read.result c.not_read.ensures.answer

pub returns-clause-gives : goal.returns-clause-gives
returns-clause-gives g c ws is =
    let l = c.args.l.now in
    let later = Rose (g.S.Shelf.read_faults c.read_file.new.shelf) (g.S.Shelf.read_faults c.judge_file.new.shelf) in
    let gives = subst (λ f. CertGives (g.S.Shelf.contents c.read_file.new.shelf) l.cert.now f later c.judge_file.result) c.as_slice.ensures c.judge_file.ensures.gives in
    cert-gives (g.S.Shelf.contents c.args.shelf.now) ws l.proof.now l.cert.now c.in-Ok.file
    (Rose (g.S.Shelf.read_faults c.args.shelf.now) (g.S.Shelf.read_faults c.judge_file.new.shelf))
    (Rose (g.S.Shelf.write_faults c.args.shelf.now) (g.S.Shelf.write_faults c.judge_file.new.shelf))
    later is c.in-Ok.ensures.whole (rose-later _ _ _ c.read_file.ensures.counted.0) c.judge_file.result
    (subst (λ told. CertGives told l.cert.now c.in-Ok.file later c.judge_file.result) c.read_file.ensures.kept gives)
