use Rattle.std.proofs.Common.{◌≡◌, take}
use Rattle.group_terms.proofs.same.same_exits.Given as goal

abbrev pub invariant-loop-i : goal.invariant-loop-i
invariant-loop-i l = take l.i l.a ≡ take l.i l.b
