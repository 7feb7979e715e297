use Rattle.std.proofs.Common.{sym, subst}
use Rattle.group_text.specs.declared.read_error.TextFault.{TextFault}
use Rattle.group_text.specs.Version.{version_4}
use Rattle.mc_text.specs.Fault.{IsBadAt}
use Rattle.fun_laws.specs.Answers.{IsTextFaultIn}
use Rattle.fun_laws.specs.Limits.{cert_texts}
use Rattle.fun_laws.proofs.Whole.{bad-both}
use Rattle.fun_laws.proofs.read.read_second.Goals as goal

pub returns-in-Err-Bad-clause-fault : goal.returns-in-Err-Bad-clause-fault
returns-in-Err-Bad-clause-fault c =
    let second = subst (λ (e : TextFault). IsTextFaultIn version_4 c.args.text.now e) c.in-Err-Bad.field-0-is c.in-Err-Bad.ensures.fault in
    subst (IsBadAt cert_texts c.args.text.now) (sym c.max.ensures) (bad-both c.args.text.now c.args.line c.in-Err-Bad.other c.requires second)
