use Rattle.std.proofs.Common.{◌≡◌, false, take}
use Rattle.std.specs.List.{list_any}
use Rattle.code_parts.specs.Graph.{is_jump_through}
use Rattle.code_parts.proofs.uses.returns.Given as goal

abbrev pub invariant-loop-n : goal.invariant-loop-n
invariant-loop-n l = list_any is_jump_through (take l.n l.g.instrs) ≡ false
