use Rattle.std.proofs.Common.{◌∙◌, ◌/◌, not, sym}
use Rattle.elf_image.specs.Symbol.{entry_at, is_ended, is_function}
use Rattle.elf_image.proofs.SymbolLemmas.{any_later, ended_name, no_function}
use Rattle.elf_image.proofs.section_checks.has_endless_name.Goals as goal
use Rattle.elf_image.proofs.section_checks.has_endless_name.Goals.{else-is_function-via-then-is_function+else-entry-end, else-is_function-via-else-is_function}

pub loop-i-preserved : goal.loop-i-preserved
loop-i-preserved c =
    let file = c.args.file.now in
    let table = c.args.table.now in
    let strings = c.args.strings.now in
    let entry = c.read_entry-entry in
    sym
    (any_later (λ e. not (is_ended strings e.name)) is_function (entry_at file table) c.loop-i.i (table.size / 24) c.loop-i-test.true
    (elim c.else-is_function.branch [
      | else-is_function-via-then-is_function+else-entry-end w ↦
          λ function. ended_name strings c.end_of_strings-end.result c.end_of_strings-end.ensures entry.result _ entry.ensures w.if-entry-end.false
      | else-is_function-via-else-is_function w ↦
          λ function. absurd (no_function entry.result _ entry.ensures (sym c.is_function.ensures ∙ w.if-is_function.false) function)
    ]))
    ∙ c.loop-i.invariant
