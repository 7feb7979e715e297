use Rattle.elf_image.proofs.SymbolLemmas.{last_zero}
use Rattle.elf_image.proofs.section_checks.end_of_strings.Goals as goal

pub returns-else-strings-end-ne0 : goal.returns-else-strings-end-ne0
returns-else-strings-end-ne0 c =
    last_zero c.args.strings.now c.loop-end.end c.loop-end-test.true c.loop-end.invariant.within c.if-strings-end-ne0.false c.loop-end.invariant.endless
