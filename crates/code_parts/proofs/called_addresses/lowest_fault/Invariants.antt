use Rattle.std.proofs.Common.{◌≡◌, ◌-◌, drop, length}
use Rattle.elf_image.specs.Image.{code_in}
use Rattle.code_parts.specs.inner.Finding.{lowest}
use Rattle.code_parts.proofs.called_addresses.lowest_fault.Given as goal

abbrev pub invariant-addresses : goal.invariant-addresses
invariant-addresses l = lowest (code_in l.image.pieces) l.addresses l.fn.least ≡ lowest (code_in l.image.pieces) (drop l.i l.addresses) l.lowest

abbrev pub decreases-addresses : goal.decreases-addresses
decreases-addresses l = length l.addresses - l.i
