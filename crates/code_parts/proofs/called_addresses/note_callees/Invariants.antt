use Rattle.std.proofs.Common.{◌-◌, ◌≤◌, length}
use Rattle.elf_image.specs.Image.{code_in}
use Rattle.code_parts.specs.inner.Finding.{NotesCallees}
use Rattle.code_parts.proofs.called_addresses.note_callees.Given as goal

abbrev pub invariant-addresses : goal.invariant-addresses
invariant-addresses l = record { upto : l.i ≤ length l.addresses; noted : NotesCallees (code_in l.image.pieces) l.addresses l.i l.initial.functions l.functions }

abbrev pub decreases-addresses : goal.decreases-addresses
decreases-addresses l = length l.addresses - l.i
