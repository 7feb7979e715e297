use Rattle.std.proofs.Common.{◌≡◌, drop}
use Rattle.elf_image.specs.Fault.{first_overlap}
use Rattle.elf_image.proofs.checks.first_shared.Given as goal

-- those so far share no address with a later one
abbrev pub invariant-loop-i : goal.invariant-loop-i
invariant-loop-i l = first_overlap (drop l.i l.loads) ≡ first_overlap l.loads
