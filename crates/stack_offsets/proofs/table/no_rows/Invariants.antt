use Rattle.std.proofs.Common.{◌≡◌, None, replicate}
use Rattle.stack_offsets.proofs.table.no_rows.Given as goal

abbrev pub invariant-loop-n : goal.invariant-loop-n
invariant-loop-n l = l.rows.items ≡ replicate l.n None
