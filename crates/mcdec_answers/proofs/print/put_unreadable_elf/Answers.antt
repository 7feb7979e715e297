use Rattle.std.proofs.Common.{codes, ◌++◌, Err}
use Rattle.mcdec_answers.specs.Printed.{fault_words}
use Rattle.mcdec_answers.proofs.Prints.{prints-exit, prints-then, prints-stopped}
use Rattle.mcdec_answers.proofs.print.put_unreadable_elf.Goals as goal

pub returns-in_err-put_text : goal.returns-in_err-put_text
returns-in_err-put_text g c =
    prints-exit _ c.in_err-put_text.field-0.0 _ _ _ _ _ c.from_residual.ensures.1
    (prints-stopped c.in_err-put_text.field-0.0 (codes "unreadable elf ") (fault_words c.args.why.now ++ codes "\n") _ _ _ _ c.in_err-put_text.ensures)

pub returns-in_err-put_fault : goal.returns-in_err-put_fault
returns-in_err-put_fault g c =
    prints-exit _ c.in_err-put_fault.field-0.0 _ _ _ _ _ c.from_residual-in_err-put_fault.ensures.1
    (prints-then (Err c.in_err-put_fault.field-0.0) (codes "unreadable elf ") (fault_words c.args.why.now ++ codes "\n") _ _ _ _ _ _ c.in_ok-put_text.ensures
    (prints-stopped c.in_err-put_fault.field-0.0 (fault_words c.args.why.now) (codes "\n") _ _ _ _ c.in_err-put_fault.ensures))

pub returns : goal.returns
returns g c =
    prints-then _ (codes "unreadable elf ") (fault_words c.args.why.now ++ codes "\n") _ _ _ _ _ _ c.in_ok-put_text.ensures
    (prints-then _ (fault_words c.args.why.now) (codes "\n") _ _ _ _ _ _ c.in_ok-put_fault.ensures c.put_text-2.ensures)
