use Rattle.std.proofs.Common.{◌≡◌, ◌-◌, ◌/◌, map, not}
use Rattle.std.specs.Prelude.{filter}
use Rattle.std.specs.List.{list_any, range_with_len}
use Rattle.elf_image.specs.Symbol.{entry_at, functions, is_ended, is_function}
use Rattle.elf_image.proofs.section_checks.has_endless_name.Given as goal

-- the functions so far have names with an end
abbrev pub invariant-loop-i : goal.invariant-loop-i
invariant-loop-i l =
    list_any (λ e. not (is_ended l.strings e.name)) (filter is_function (map (entry_at l.file l.table) (range_with_len l.i (l.table.size / 24 - l.i))))
    ≡ list_any (λ e. not (is_ended l.strings e.name)) (functions l.file l.table)
