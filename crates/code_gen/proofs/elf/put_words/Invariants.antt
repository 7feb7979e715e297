use Rattle.std.proofs.Common.{◌≡◌, ◌++◌, take}
use Rattle.std.specs.List.{flat_map}
use Rattle.code_gen.specs.ElfFile.{little}
use Rattle.code_gen.proofs.elf.put_words.Given as goal

abbrev pub invariant-loop-word : goal.invariant-loop-word
invariant-loop-word l = l.bytes ≡ l.fn.bytes ++ flat_map (little 4) (take l.word-index l.words)
