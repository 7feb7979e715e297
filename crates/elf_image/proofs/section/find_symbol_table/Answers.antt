use Rattle.std.proofs.Common.{◌≡◌, ◌==◌, map, false, sym, ◌∙◌}
use Rattle.std.specs.List.{range_with_len}
use Rattle.std.proofs.lemmas.Bool.{ne_eqb}
use Rattle.elf_image.specs.Fault.{first}
use Rattle.elf_image.specs.Header.{section_at}
use Rattle.elf_image.specs.inner.Faults.{cut_section}
use Rattle.elf_image.proofs.TableLemmas.{section_whole_at}
use Rattle.elf_image.proofs.SymbolLemmas.{found_later}
use Rattle.elf_image.proofs.section.find_symbol_table.Goals as goal

pub read_section-section-requires-clause-whole : goal.read_section-section-requires-clause-whole
read_section-section-requires-clause-whole c =
    section_whole_at c.args.file.now c.count_sections-count.result c.loop-i.i
    ((λ j. first (map (cut_section c.args.file.now) (range_with_len 0 (c.count_sections-count.ensures j)))) ∙ c.requires.whole) c.loop-i-test.true

pub loop-i-preserved : goal.loop-i-preserved
loop-i-preserved c =
    let file = c.args.file.now in
    let i = c.loop-i.i in
    let section = c.read_section-section in
    let other : ((section_at file i).kind == 2) ≡ false = (λ j. (sym section.ensures j).kind == 2) ∙ ne_eqb section.result.kind 2 c.if-section-eq-SHT_SYMTAB.false in
    sym (found_later (λ s. s.kind == 2) (section_at file) i c.count_sections-count.result c.loop-i-test.true other) ∙ c.loop-i.invariant
