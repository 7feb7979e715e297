use Rattle.std.proofs.Common.{◌<◌, subst}
use Rattle.elf_image.specs.Header.{section_count}
use Rattle.elf_image.proofs.TableLemmas.{section_whole_at}
use Rattle.elf_image.proofs.section_checks.symbols_fault.Goals as goal

pub read_section-strings-requires-clause-whole : goal.read_section-strings-requires-clause-whole
read_section-strings-requires-clause-whole c =
    section_whole_at c.args.file.now (section_count c.args.file.now) c.from-link.result c.requires.whole
    (subst (λ n. c.from-link.result < n) c.count_sections.ensures c.if-link-count_sections.false)
