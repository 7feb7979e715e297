use Rattle.std.proofs.Common.{subst}
use Rattle.mc_shelf.specs.Fault.{Rose}
use Rattle.mcdec_answers.specs.declared.answer.Answer.TheVariants as answer
use Rattle.mcdec_answers.specs.declared.answer.LawsAnswer.TheVariants as la
use Rattle.mcdec_commands.specs.LawsAnswer.{TextsGive, cert_limit}
use Rattle.mcdec_commands.specs.inner.Judging.{CertGives}
use Rattle.mcdec_commands.proofs.Judging.{held-gives}
use Rattle.mcdec_commands.proofs.Loading.{unread, unread-so}
use Rattle.mcdec_commands.proofs.laws.judge_file.Goals as goal

pub returns-in-Err-clause-gives : goal.returns-in-Err-clause-gives
returns-in-Err-clause-gives g c =
    let cert = c.args.l.now.cert.now in
    let told = g.S.Shelf.contents c.args.shelf.now in
    let rose = Rose (g.S.Shelf.read_faults c.args.shelf.now) (g.S.Shelf.read_faults c.read_file.new.shelf) in
    unread-so told cert rose (CertGives told cert c.args.file.now rose) (λ rises. rises) tt (answer.Laws la.CertOverLimit) cert_limit (λ long. (c.requires, long)) c.in-Err.end
    (unread told cert rose cert_limit c.read_file.result c.in-Err.end c.in-Err.is c.read_file.ensures.cause c.read_file.ensures.too_long) c.not_read.result c.not_read.ensures.answer

pub returns-in-Ok-judge_texts-clause-gives : goal.returns-in-Ok-judge_texts-clause-gives
returns-in-Ok-judge_texts-clause-gives g c =
    held-gives (g.S.Shelf.contents c.args.shelf.now) c.args.l.now.cert.now c.args.file.now c.in-Ok.text c.requires c.in-Ok.ensures.whole c.in-Ok.ensures.within c.in-Ok-judge_texts.answer
    (subst (λ t. TextsGive c.args.file.now t c.in-Ok-judge_texts.answer) c.as_slice.ensures c.in-Ok-judge_texts.ensures)
