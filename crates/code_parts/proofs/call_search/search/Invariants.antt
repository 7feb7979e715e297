use Rattle.std.proofs.Common.{◌-◌}
use Rattle.elf_image.specs.Image.{code_in}
use Rattle.code_parts.proofs.Searching.{Searching}
use Rattle.code_parts.proofs.call_search.search.Given as goal

abbrev pub invariant-functions : goal.invariant-functions
invariant-functions l = Searching (code_in l.image.pieces) l.entry l.functions l.i l.total l.called l.fault

abbrev pub decreases-functions : goal.decreases-functions
decreases-functions l = 1024 - l.i
