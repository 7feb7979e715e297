use Rattle.std.proofs.Common.{◌≡◌, ◌++◌, take}
use Rattle.std.specs.List.{flat_map}
use Rattle.code_gen.specs.ElfFile.{field_bytes}
use Rattle.code_gen.proofs.elf.put_fields.Given as goal

abbrev pub invariant-loop-field : goal.invariant-loop-field
invariant-loop-field l = l.bytes ≡ l.fn.bytes ++ flat_map field_bytes (take l.field-index l.fields)
