use Rattle.std.proofs.Common.{◌≡◌, ◌+◌, ◌*◌, ◌-◌, map}
use Rattle.std.specs.List.{range_with_len}
use Rattle.elf_image.specs.Fault.{first, cut_at}
use Rattle.elf_image.proofs.checks.first_cut.Given as goal

-- the headers so far lie in the file
abbrev pub invariant-loop-i : goal.invariant-loop-i
invariant-loop-i l =
    first (map (λ i. cut_at l.file (l.table + l.size * i) l.size) (range_with_len l.i (l.count - l.i)))
    ≡ first (map (λ i. cut_at l.file (l.table + l.size * i) l.size) (range_with_len 0 l.count))
