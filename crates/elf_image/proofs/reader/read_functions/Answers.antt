use Rattle.std.proofs.Common.{◌∙◌, sym}
use Rattle.elf_image.proofs.SymbolLemmas.{function_kept, function_skipped}
use Rattle.elf_image.proofs.reader.read_functions.Goals as goal
use Rattle.elf_image.proofs.reader.read_functions.Goals.{then-is_function+in_ok-push, else-is_function}

pub loop-i-preserved : goal.loop-i-preserved
loop-i-preserved c =
    let file = c.args.file.now in
    let table = c.args.table.now in
    let entry = c.read_entry-entry in
    elim c.if-is_function.branch [
      | then-is_function+in_ok-push w ↦ (λ j. (w.entries-is j).items) ∙ w.in_ok-push.ensures.items
          ∙ function_kept file table c.loop-i.i c.loop-i.entries.items entry.result entry.ensures (sym c.is_function.ensures ∙ w.if-is_function.true) c.loop-i.invariant
      | else-is_function w ↦ (λ j. (w.entries-is j).items)
          ∙ function_skipped file table c.loop-i.i c.loop-i.entries.items entry.result entry.ensures (sym c.is_function.ensures ∙ w.if-is_function.false) c.loop-i.invariant
    ]
