use Rattle.mc_shelf.specs.Fault.{Rose}
use Rattle.mcdec_answers.specs.Command.{Run}
use Rattle.mcdec_answers.specs.declared.answer.Answer.TheVariants as answer
use Rattle.mcdec_answers.specs.declared.answer.RunAnswer.TheVariants as run
use Rattle.mcdec_commands.specs.Answer.{Gives}
use Rattle.mcdec_commands.specs.RunAnswer.{RunGives}
use Rattle.mcdec_commands.proofs.Answers.{held-with, one-file}
use Rattle.mcdec_commands.proofs.Loading.{unloaded-so}
use Rattle.mcdec_commands.proofs.run.answer_run.Goals as goal

pub returns-in-Ok-run_loaded-clause-gives : goal.returns-in-Ok-run_loaded-clause-gives
returns-in-Ok-run_loaded-clause-gives g c ws is =
    let r = c.args.r.now in
    let image = c.in-Ok.ensures.image in (
      r.elf.now,
      r.start.now,
      r.until,
      r.steps,
      is.0,
      is.1,
      held-with (g.S.Shelf.contents c.args.shelf.now) r.elf.now image.file (λ file. RunGives file r.start.now r.until r.steps is.0 c.in-Ok-run_loaded.answer) image.holds
          (c.in-Ok-run_loaded.ensures is.0 is.1.0.4 is.2 image.file image.loaded image.is),
    )

pub returns-in-Err-clause-gives : goal.returns-in-Err-clause-gives
returns-in-Err-clause-gives g c ws is =
    let r = c.args.r.now in
    let told = g.S.Shelf.contents c.args.shelf.now in
    let rose = Rose (g.S.Shelf.read_faults c.args.shelf.now) (g.S.Shelf.read_faults c.load_image.new.shelf) in
    let wrote = Rose (g.S.Shelf.write_faults c.args.shelf.now) (g.S.Shelf.write_faults c.load_image.new.shelf) in
    unloaded-so told r.elf.now rose (Gives told ws rose wrote) (λ rises. (Run r.elf.now r.start.now r.until r.steps is.0, is.1, one-file r.elf.now, rises)) tt (answer.Run run.OverLimit)
    (λ why. answer.Run (run.Unreadable why)) (λ long. (r.elf.now, r.start.now, r.until, r.steps, is.0, is.1, long)) (λ why bad. (r.elf.now, r.start.now, r.until, r.steps, is.0, is.1, bad))
    c.in-Err.fault c.in-Err.ensures.fault c.not_loaded.result c.not_loaded.ensures
