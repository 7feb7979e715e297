use Rattle.std.proofs.Common.{rules, Option, take, sym, subst}
use Rattle.mc_shelf.specs.Fault.{Rose}
use Rattle.mc_shelf.specs.Shelf.{Contents}
use Rattle.proof_text.specs.inner.PulledRows.{IfFile}
use Rattle.verdicts.specs.Pulled.{IfVerdict}
use Rattle.proof_v2.specs.AnyVerdicts.{SaysOf}
use Rattle.mcdec_answers.proofs.Prints.{rose-later}
use Rattle.mcdec_commands.specs.inner.Checking.{ImageGives}
use Rattle.mcdec_commands.proofs.Checking.{long-gives, pulled-gives}
use Rattle.mcdec_commands.proofs.check.check_image.Goals as goal

pub returns-in-Err-Fault-clause-gives : goal.returns-in-Err-Fault-clause-gives
returns-in-Err-Fault-clause-gives g c file loaded is = c.measure.ensures.cause (search rules)

pub returns-in-Err-TooLong-clause-gives : goal.returns-in-Err-TooLong-clause-gives
returns-in-Err-TooLong-clause-gives g c file loaded is = long-gives (g.S.Shelf.contents c.args.shelf.now) c.args.c.now.proof.now file (Rose (g.S.Shelf.read_faults c.args.shelf.now) (g.S.Shelf.read_faults c.measure.new.shelf)) loaded (c.measure.ensures.too_long (search rules))

pub returns-clause-gives : goal.returns-clause-gives
returns-clause-gives g c file loaded is =
    let told = g.S.Shelf.contents c.args.shelf.now in
    let rose = Rose (g.S.Shelf.read_faults c.args.shelf.now) (g.S.Shelf.read_faults c.check_file.new.shelf) in
    subst (ImageGives told c.args.c.now.proof.now file rose) (sym c.answer_to.ensures)
    (pulled-gives c.args.c.now.proof.now file c.in-Ok.size loaded c.in-Ok.ensures.within told rose c.in-Ok.ensures.whole c.check_file.result
    (subst (λ (held : Option Contents). IfVerdict c.check_file.result (λ v. IfFile held c.args.c.now.proof.now (λ text. SaysOf file (take c.in-Ok.size text) v))) c.measure.ensures.kept (c.check_file.ensures.verdict file loaded.1 is))
    (λ failed. rose-later _ _ _ c.measure.ensures.counted.0 (c.check_file.ensures.shelf.cause failed)))
