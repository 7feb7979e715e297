use Rattle.std.proofs.Common.{◌-◌, ◌≤◌, length}
use Rattle.elf_image.specs.Image.{code_in}
use Rattle.code_parts.specs.inner.Finding.{AreMade}
use Rattle.code_parts.proofs.call_graph.functions_at.Given as goal

abbrev pub invariant-functions : goal.invariant-functions
invariant-functions l = record { upto : l.i ≤ length l.entries; made : AreMade (code_in l.image.pieces) l.entries l.ranks l.functions.items l.i }

abbrev pub decreases-functions : goal.decreases-functions
decreases-functions l = length l.entries - l.i
