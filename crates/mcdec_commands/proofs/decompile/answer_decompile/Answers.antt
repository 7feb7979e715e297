use Rattle.mc_shelf.specs.Fault.{Rose}
use Rattle.mcdec_answers.specs.Command.{Decompile}
use Rattle.mcdec_answers.specs.declared.answer.Answer.TheVariants as answer
use Rattle.mcdec_answers.specs.declared.answer.DecompileAnswer.TheVariants as de
use Rattle.mcdec_answers.proofs.Prints.{rose-later}
use Rattle.mcdec_commands.specs.Answer.{Gives}
use Rattle.mcdec_commands.specs.DecompileAnswer.{IsTextFor}
use Rattle.mcdec_commands.proofs.Answers.{one-file}
use Rattle.mcdec_commands.proofs.Decompiling.{file-gives}
use Rattle.mcdec_commands.proofs.Leaving.{nothing-written}
use Rattle.mcdec_commands.proofs.Loading.{unloaded-so}
use Rattle.mcdec_commands.proofs.decompile.answer_decompile.Goals as goal

pub returns-in-Ok-clause-gives : goal.returns-in-Ok-clause-gives
returns-in-Ok-clause-gives g c ws is =
    let d = c.args.d.now in
    let image = c.in-Ok.ensures.image in
    file-gives (g.S.Shelf.contents c.args.shelf.now) ws d.form d.elf.now d.out.now d.names image.file (Rose (g.S.Shelf.read_faults c.args.shelf.now) (g.S.Shelf.read_faults c.decompile_image.new.shelf))
    (Rose (g.S.Shelf.write_faults c.args.shelf.now) (g.S.Shelf.write_faults c.decompile_image.new.shelf)) is image.holds
    c.decompile_image.result (λ five. rose-later _ _ _ c.load_image.ensures.shelf.counted.1 (c.decompile_image.ensures.shelf.cause five)) (c.decompile_image.ensures.gives image.file image.loaded image.is)

pub returns-in-Err-clause-gives : goal.returns-in-Err-clause-gives
returns-in-Err-clause-gives g c ws is =
    let d = c.args.d.now in
    let told = g.S.Shelf.contents c.args.shelf.now in
    let rose = Rose (g.S.Shelf.read_faults c.args.shelf.now) (g.S.Shelf.read_faults c.load_image.new.shelf) in
    let wrote = Rose (g.S.Shelf.write_faults c.args.shelf.now) (g.S.Shelf.write_faults c.load_image.new.shelf) in
    unloaded-so told d.elf.now rose (Gives told ws rose wrote) (λ rises. (Decompile d.form d.elf.now d.out.now d.names, is, one-file d.elf.now, rises)) tt (answer.Decompile de.OverLimit)
    (λ why. answer.Decompile (de.Unreadable why)) (λ long. (d.form, d.elf.now, d.out.now, d.names, is, long)) (λ why bad. (d.form, d.elf.now, d.out.now, d.names, is, bad))
    c.in-Err.fault c.in-Err.ensures.fault c.not_loaded.result c.not_loaded.ensures.answer

pub returns-in-Err-clause-written : goal.returns-in-Err-clause-written
returns-in-Err-clause-written g c =
    let d = c.args.d.now in
    nothing-written (λ files. IsTextFor d.form files d.elf.now d.names) d.out.now c.not_loaded.result _ _ c.load_image.ensures.shelf.kept c.not_loaded.ensures.refused
