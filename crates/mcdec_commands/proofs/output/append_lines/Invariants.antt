use Rattle.std.proofs.Common.{◌≡◌, ◌≤◌, ◌++◌, List, ℕ, length, Ok}
use Rattle.mc_shelf.specs.Fault.{WhereTold}
use Rattle.mc_shelf.specs.Shelf.{TellsName}
use Rattle.mcdec_commands.specs.inner.Writing.{AddsText}
use Rattle.mcdec_commands.proofs.output.append_lines.Given as goal

-- the lines before the rest were added
abbrev pub invariant-loop-rest : goal.invariant-loop-rest
invariant-loop-rest g l =
    let shelf = g.S.Shelf in
    record {
      added : (front : List ℕ) × (l.text ≡ front ++ l.rest) × WhereTold (shelf.contents l.fn.shelf) (shelf.contents l.shelf) (AddsText (Ok tt) l.fn.name front);
      reads : shelf.read_faults l.shelf ≡ shelf.read_faults l.fn.shelf;
      counted : shelf.write_faults l.fn.shelf ≤ shelf.write_faults l.shelf;
      stays_sure : shelf.IsSure l.fn.shelf → shelf.IsSure l.shelf;
      sure : shelf.IsSure l.fn.shelf → TellsName (shelf.contents l.fn.shelf) l.fn.name → shelf.write_faults l.shelf ≡ shelf.write_faults l.fn.shelf;
    }

abbrev pub decreases-loop-rest : goal.decreases-loop-rest
decreases-loop-rest g l = length l.rest
