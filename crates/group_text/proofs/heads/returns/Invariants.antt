use Rattle.std.proofs.Common.{◌≡◌, ◌+◌, ◌≤◌, drop}
use Rattle.group_text.specs.Limits.{returns}
use Rattle.group_text.proofs.heads.returns.Given as goal

abbrev pub invariant-loop-exit : goal.invariant-loop-exit
invariant-loop-exit l = record {
  told : l.count + returns (drop l.exit-index l.exits) ≡ returns l.exits;
  small : l.count ≤ l.exit-index;
}
