use Rattle.std.proofs.Common.{◌≡◌, map, drop}
use Rattle.elf_image.specs.Fault.{first, overlaps}
use Rattle.elf_image.proofs.checks.overlap_with.Given as goal

-- those so far share no address with it
abbrev pub invariant-loop-b : goal.invariant-loop-b
invariant-loop-b l = first (map (overlaps l.a) (drop l.b-index l.others)) ≡ first (map (overlaps l.a) l.others)
