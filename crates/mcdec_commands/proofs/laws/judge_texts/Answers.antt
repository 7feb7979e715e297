use Rattle.std.proofs.Common.{subst}
use Rattle.group_text.specs.declared.read_error.TextFault.{TextFault}
use Rattle.fun_laws.specs.Answers.{IsTextFault}
use Rattle.mcdec_commands.proofs.laws.judge_texts.Goals as goal

pub returns-in-Ok : goal.returns-in-Ok
returns-in-Ok c = c.judge.ensures c.args.text.now c.in-Ok.ensures.text

pub returns-in-Err-Bad : goal.returns-in-Err-Bad
returns-in-Err-Bad c = c.unreadable.ensures c.args.text.now (subst (λ (e : TextFault). IsTextFault c.args.text.now e) c.in-Err-Bad.field-0-is c.in-Err-Bad.ensures.fault)
