use Rattle.std.proofs.Common.{◌≡◌, ◌==◌, map}
use Rattle.std.specs.Prelude.{filter}
use Rattle.std.specs.List.{range_with_len}
use Rattle.elf_image.specs.Header.{header_at}
use Rattle.elf_image.proofs.reader.read_loads.Given as goal

-- the PT_LOADs so far
abbrev pub invariant-loop-i : goal.invariant-loop-i
invariant-loop-i l = l.headers.items ≡ filter (λ h. h.kind == 1) (map (header_at l.file) (range_with_len 0 l.i))
