use Rattle.std.proofs.Common.{◌≡◌}
use Rattle.elf_image.specs.Symbol.{one_of}
use Rattle.elf_image.proofs.SymbolLemmas.{values_to}
use Rattle.elf_image.proofs.symbol.Symbols.find.Given as goal

-- what the symbols so far give
abbrev pub invariant-loop-entry : goal.invariant-loop-entry
invariant-loop-entry l = l.found ≡ one_of (values_to l.strings l.name l.entry-items l.entry-index)
