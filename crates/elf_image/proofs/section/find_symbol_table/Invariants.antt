use Rattle.std.proofs.Common.{◌≡◌, ◌-◌, ◌==◌, map}
use Rattle.std.specs.Prelude.{find}
use Rattle.std.specs.List.{range_with_len}
use Rattle.elf_image.specs.Header.{section_at, symbol_table}
use Rattle.elf_image.proofs.section.find_symbol_table.Given as goal

-- the sections so far are no symbol tables
abbrev pub invariant-loop-i : goal.invariant-loop-i
invariant-loop-i l = find (λ s. s.kind == 2) (map (section_at l.file) (range_with_len l.i (l.count - l.i))) ≡ symbol_table l.file
