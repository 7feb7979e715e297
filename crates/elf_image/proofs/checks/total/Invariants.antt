use Rattle.std.proofs.Common.{◌≡◌, ◌*◌, ◌^◌, ◌≤◌, take}
use Rattle.elf_image.specs.Fault.{total_size}
use Rattle.elf_image.proofs.checks.total.Given as goal

-- the sizes so far
abbrev pub invariant-loop-header : goal.invariant-loop-header
invariant-loop-header l = (l.sum ≡ total_size (take l.header-index l.loads)) × (l.sum ≤ l.header-index * 2 ^ 64)
