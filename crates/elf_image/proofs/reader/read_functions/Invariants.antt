use Rattle.std.proofs.Common.{◌≡◌}
use Rattle.elf_image.proofs.SymbolLemmas.{functions_to}
use Rattle.elf_image.proofs.reader.read_functions.Given as goal

-- the functions so far
abbrev pub invariant-loop-i : goal.invariant-loop-i
invariant-loop-i l = l.entries.items ≡ functions_to l.file l.table l.i
