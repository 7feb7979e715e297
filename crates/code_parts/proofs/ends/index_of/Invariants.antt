use Rattle.std.proofs.Common.{◌≡◌}
use Rattle.code_parts.proofs.BuiltBodies.{IsMissing}
use Rattle.code_parts.proofs.ends.index_of.Given as goal

abbrev pub invariant-loop-x : goal.invariant-loop-x
invariant-loop-x l = record { count : l.place ≡ l.x-index; missing : IsMissing l.nodes l.n l.x-index }
