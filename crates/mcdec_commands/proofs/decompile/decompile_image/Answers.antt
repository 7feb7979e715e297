use Rattle.std.proofs.Common.{◌≡◌, ℕ, List, Some, sym, subst}
use Rattle.mc_shelf.specs.Shelf.{Contents}
use Rattle.mcdec_answers.specs.declared.answer.Answer.TheVariants as answer
use Rattle.mcdec_answers.specs.declared.answer.DecompileAnswer.TheVariants as de
use Rattle.mcdec_commands.specs.DecompileAnswer.{IsTextFor}
use Rattle.mcdec_commands.proofs.Decompiling.{names-told, text-for}
use Rattle.mcdec_commands.proofs.Leaving.{text-written}
use Rattle.mcdec_commands.proofs.decompile.decompile_image.Goals as goal

pub returns-in-Ok-clause-gives : goal.returns-in-Ok-clause-gives
returns-in-Ok-clause-gives g c file loaded is =
    let d = c.args.d.now in
    names-told d.form file d.names loaded c.in-Ok.field-0.text c.in-Ok.field-0.listed (c.in-Ok.ensures.items file is) c.write_answer.result c.write_answer.ensures.answer

pub returns-in-Ok-clause-written : goal.returns-in-Ok-clause-written
returns-in-Ok-clause-written g c file loaded is held =
    let d = c.args.d.now in
    text-written (λ files. IsTextFor d.form files d.elf.now d.names) d.out.now c.write_answer.result (answer.Decompile (de.Decompiled d.form c.in-Ok.field-0.listed)) d.elf.now file c.as_slice.result.now
    (subst (λ (text : List ℕ). (files : Contents) → files d.elf.now ≡ Some file → IsTextFor d.form files d.elf.now d.names (answer.Decompile (de.Decompiled d.form c.in-Ok.field-0.listed)) text) (sym c.as_slice.ensures)
    (text-for d.form file d.names loaded c.in-Ok.field-0.text c.in-Ok.field-0.listed (c.in-Ok.ensures.items file is) d.elf.now)) _ _ held c.write_answer.ensures.written
