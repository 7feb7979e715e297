use Rattle.std.proofs.Common.{◌≡◌, ◌++◌, ◌-◌}
use Rattle.code_gen.specs.ElfFile.{little}
use Rattle.code_gen.proofs.elf.put_number.Given as goal

abbrev pub invariant-loop : goal.invariant-loop
invariant-loop l = l.bytes ++ little (l.size - l.counter) l.rest ≡ l.fn.bytes ++ little l.size l.number
