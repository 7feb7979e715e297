use Rattle.std.proofs.Common.{◌-◌, ◌≤◌, length}
use Rattle.elf_image.specs.Image.{code_in}
use Rattle.code_parts.specs.inner.Finding.{AreRanks}
use Rattle.code_parts.proofs.ranks.ranks.Given as goal

abbrev pub invariant-functions : goal.invariant-functions
invariant-functions l = record { upto : l.i ≤ length l.entries; ranked : AreRanks (code_in l.image.pieces) l.entries l.ranks l.i }

abbrev pub decreases-functions : goal.decreases-functions
decreases-functions l = length l.entries - l.i
