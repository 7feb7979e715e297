-- A file in which the sections show no fault has its symbol table and string table whole.
use Rattle.std.proofs.Common.{◌≡◌, ℕ, ◌+◌, ◌<◌, ◌≤◌, ◌==◌, Bool, true, false, not, ◌&&◌, Option, Some, None, List, map, length, nat_le, sym, ◌∙◌}
use Rattle.std.specs.Option.{option_and_then, option_or}
use Rattle.std.specs.List.{list_any, range_with_len}
use Rattle.std.proofs.lemmas.Bool.{leb-false}
use Rattle.elf_image.specs.declared.fault.ElfFault.{ElfFault}
use Rattle.elf_image.specs.declared.fault.ElfFault.TheVariants.{Entry, Symbols}
use Rattle.elf_image.specs.declared.section.SectionHeader.{SectionHeader}
use Rattle.elf_image.specs.Header.{section_at, section_count, section_entry_size, symbol_table}
use Rattle.elf_image.specs.Symbol.{functions, is_ended, strings_of}
use Rattle.elf_image.specs.Fault.{cut_at, first, section_faults, symbol_faults, when}
use Rattle.elf_image.specs.inner.Faults.{cut_section}
use Rattle.elf_image.proofs.TableLemmas.{both, uncut}

no_test : (t : Bool) (f : ElfFault) → when t f ≡ None → t ≡ false
no_test true f e = absurd (cc)
no_test false f e = λ j. false

module _ (file : List ℕ) (faultless : first (section_faults file) ≡ None) where
  abbrev symbols : Option SectionHeader → Option ElfFault
  symbols found = option_and_then (λ table. first (symbol_faults file table)) found

  behind_entry : option_or (first (map (cut_section file) (range_with_len 0 (section_count file)))) (option_or (symbols (symbol_table file)) None) ≡ None
  behind_entry = (both (when (not (section_count file == 0) && not (section_entry_size file == 64)) (Entry (section_entry_size file))) _ faultless).1

  pub sections_whole : first (map (cut_section file) (range_with_len 0 (section_count file))) ≡ None
  sections_whole = (both (first (map (cut_section file) (range_with_len 0 (section_count file)))) _ behind_entry).0

  pub table_faultless : (table : SectionHeader) → symbol_table file ≡ Some table → first (symbol_faults file table) ≡ None
  table_faultless table is =
      (λ j. symbols (sym is j))
      ∙ (both (symbols (symbol_table file)) None (both (first (map (cut_section file) (range_with_len 0 (section_count file)))) _ behind_entry).1).0

module _ (file : List ℕ) (table : SectionHeader) (faultless : first (symbol_faults file table) ≡ None) where
  abbrev entries : Option ElfFault
  entries = cut_at file table.offset table.size

  abbrev link : Option ElfFault
  link = when (nat_le (section_count file) table.link) Symbols

  abbrev strings : Option ElfFault
  strings = cut_at file (section_at file table.link).offset (section_at file table.link).size

  abbrev names : Option ElfFault
  names = when (list_any (λ e. not (is_ended (strings_of file table) e.name)) (functions file table)) Symbols

  behind_size : option_or entries (option_or link (option_or strings (option_or names None))) ≡ None
  behind_size = (both (when (not (table.entry_size == 24)) (Entry table.entry_size)) _ faultless).1

  behind_entries : option_or link (option_or strings (option_or names None)) ≡ None
  behind_entries = (both entries _ behind_size).1

  pub entries_whole : table.offset + table.size ≤ length file
  entries_whole = uncut file table.offset table.size (both entries _ behind_size).0

  pub link_below : table.link < section_count file
  link_below = leb-false (section_count file) table.link (no_test _ _ (both link _ behind_entries).0)

  pub strings_whole : (section_at file table.link).offset + (section_at file table.link).size ≤ length file
  strings_whole = uncut file (section_at file table.link).offset (section_at file table.link).size (both strings _ (both link _ behind_entries).1).0
