use Rattle.std.proofs.Common.{subst}
use Rattle.mc_shelf.specs.Fault.{Rose}
use Rattle.mcdec_answers.specs.Command.{Eval}
use Rattle.mcdec_answers.specs.declared.answer.Answer.TheVariants as answer
use Rattle.mcdec_answers.specs.declared.answer.EvalAnswer.TheVariants as ev
use Rattle.mcdec_commands.specs.Answer.{Gives}
use Rattle.mcdec_commands.specs.EvalAnswer.{proof_limit, EvalGives}
use Rattle.mcdec_commands.proofs.Answers.{held-with, one-file}
use Rattle.mcdec_commands.proofs.Loading.{unread, unread-so}
use Rattle.mcdec_commands.proofs.eval.answer_eval.Goals as goal

pub returns-in-Err-clause-gives : goal.returns-in-Err-clause-gives
returns-in-Err-clause-gives g c ws is =
    let e = c.args.e.now in
    let told = g.S.Shelf.contents c.args.shelf.now in
    let rose = Rose (g.S.Shelf.read_faults c.args.shelf.now) (g.S.Shelf.read_faults c.read_file.new.shelf) in
    let wrote = Rose (g.S.Shelf.write_faults c.args.shelf.now) (g.S.Shelf.write_faults c.read_file.new.shelf) in
    unread-so told e.proof.now rose (Gives told ws rose wrote) (λ rises. (Eval e.proof.now e.name.now e.turns is.0, is.1, one-file e.proof.now, rises)) tt (answer.Eval ev.OverLimit) proof_limit
    (λ long. (e.proof.now, e.name.now, e.turns, is.0, is.1, long)) c.in-Err.end (unread told e.proof.now rose proof_limit c.read_file.result c.in-Err.end c.in-Err.is c.read_file.ensures.cause c.read_file.ensures.too_long)
    c.not_read.result c.not_read.ensures.answer

pub returns-in-Ok-evaluate_text-clause-gives : goal.returns-in-Ok-evaluate_text-clause-gives
returns-in-Ok-evaluate_text-clause-gives g c ws is =
    let gives = subst (λ t. EvalGives t c.args.e.now.name.now c.args.e.now.turns is.0 c.in-Ok-evaluate_text.answer) c.as_slice.ensures (c.in-Ok-evaluate_text.ensures is.0 is.1.0.3 is.2) in (
      c.args.e.now.proof.now,
      c.args.e.now.name.now,
      c.args.e.now.turns,
      is.0,
      is.1,
      held-with (g.S.Shelf.contents c.args.shelf.now) c.args.e.now.proof.now c.in-Ok.text (λ file. EvalGives file c.args.e.now.name.now c.args.e.now.turns is.0 c.in-Ok-evaluate_text.answer) c.in-Ok.ensures.whole gives,
    )
