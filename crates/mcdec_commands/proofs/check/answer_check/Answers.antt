use Rattle.std.proofs.Common.{subst}
use Rattle.mc_shelf.specs.Fault.{Rose}
use Rattle.verdicts.specs.declared.verdict.Verdict.TheVariants as verdict
use Rattle.mcdec_answers.specs.Command.{Check}
use Rattle.mcdec_answers.specs.declared.answer.Answer.TheVariants as answer
use Rattle.mcdec_answers.specs.declared.answer.CheckAnswer.TheVariants as check
use Rattle.mcdec_answers.proofs.Prints.{rose-later}
use Rattle.mcdec_commands.specs.Answer.{Gives}
use Rattle.mcdec_commands.specs.inner.Checking.{ImageGives}
use Rattle.mcdec_commands.proofs.Checking.{two-files, image-gives}
use Rattle.mcdec_commands.proofs.Loading.{unloaded-so}
use Rattle.mcdec_commands.proofs.check.answer_check.Goals as goal

pub returns-in-Ok-clause-gives : goal.returns-in-Ok-clause-gives
returns-in-Ok-clause-gives g c ws is =
    let image = c.in-Ok.ensures.image in
    let later = Rose (g.S.Shelf.read_faults c.load_image.new.shelf) (g.S.Shelf.read_faults c.check_image.new.shelf) in
    image-gives (g.S.Shelf.contents c.args.shelf.now) ws c.args.c.now.elf.now c.args.c.now.proof.now image.file
    (Rose (g.S.Shelf.read_faults c.args.shelf.now) (g.S.Shelf.read_faults c.check_image.new.shelf))
    (Rose (g.S.Shelf.write_faults c.args.shelf.now) (g.S.Shelf.write_faults c.check_image.new.shelf))
    later is image.holds (rose-later _ _ _ c.load_image.ensures.shelf.counted.0) c.check_image.result
    (subst (λ told. ImageGives told c.args.c.now.proof.now image.file later c.check_image.result) c.load_image.ensures.shelf.kept (c.check_image.ensures.gives image.file image.loaded image.is))

pub returns-in-Err-clause-gives : goal.returns-in-Err-clause-gives
returns-in-Err-clause-gives g c ws is =
    let k = c.args.c.now in
    let told = g.S.Shelf.contents c.args.shelf.now in
    let rose = Rose (g.S.Shelf.read_faults c.args.shelf.now) (g.S.Shelf.read_faults c.load_image.new.shelf) in
    let wrote = Rose (g.S.Shelf.write_faults c.args.shelf.now) (g.S.Shelf.write_faults c.load_image.new.shelf) in
    unloaded-so told k.elf.now rose (Gives told ws rose wrote) (λ rises. (Check k.elf.now k.proof.now, is, two-files k.elf.now k.proof.now, rises)) tt (answer.Check check.ElfOverLimit)
    (λ why. answer.Check (check.Judged (verdict.BadElf why))) (λ long. (k.elf.now, k.proof.now, is, long)) (λ why bad. (k.elf.now, k.proof.now, is, bad)) c.in-Err.fault c.in-Err.ensures.fault c.not_loaded.result c.not_loaded.ensures
