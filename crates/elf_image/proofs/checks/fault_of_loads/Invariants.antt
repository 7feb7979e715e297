use Rattle.std.proofs.Common.{◌≡◌, map, drop}
use Rattle.elf_image.specs.Fault.{first, load_fault}
use Rattle.elf_image.proofs.checks.fault_of_loads.Given as goal

-- those so far have no fault
abbrev pub invariant-loop-header : goal.invariant-loop-header
invariant-loop-header l = first (map (load_fault l.file) (drop l.header-index l.loads)) ≡ first (map (load_fault l.file) l.loads)
