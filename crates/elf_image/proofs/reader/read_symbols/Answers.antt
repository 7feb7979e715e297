use Rattle.std.proofs.Common.{◌<◌, sym, subst}
use Rattle.elf_image.specs.Header.{section_count}
use Rattle.elf_image.proofs.TableLemmas.{section_whole_at}
use Rattle.elf_image.proofs.WholeLemmas.{sections_whole, table_faultless, link_below}
use Rattle.elf_image.proofs.reader.read_symbols.Goals as goal

pub read_section-strings-requires-clause-whole : goal.read_section-strings-requires-clause-whole
read_section-strings-requires-clause-whole c =
    let file = c.args.file.now in
    let table = c.in-Some.table in
    let faultless = table_faultless file c.requires.faultless table (sym c.in-Some.ensures) in
    section_whole_at file (section_count file) c.from.result (sections_whole file c.requires.faultless)
    (subst (λ n. n < section_count file) (sym c.from.ensures) (link_below file table faultless))
