use Rattle.std.proofs.Common.{◌-◌, length}
use Rattle.elf_image.specs.Image.{code_in}
use Rattle.code_parts.proofs.Noting.{NoneCalls}
use Rattle.code_parts.proofs.called_addresses.calls.Given as goal

abbrev pub invariant-addresses : goal.invariant-addresses
invariant-addresses l = NoneCalls (code_in l.image.pieces) l.addresses l.i l.t

abbrev pub decreases-addresses : goal.decreases-addresses
decreases-addresses l = length l.addresses - l.i
