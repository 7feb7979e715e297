use Rattle.std.proofs.Common.{◌≡◌, drop}
use Rattle.frame_compose.specs.Rules.{further}
use Rattle.held_terms.proofs.further.next_further.Given as goal

abbrev pub invariant-loop-i : goal.invariant-loop-i
invariant-loop-i l = further l.own (drop l.fn.start l.all) ≡ further l.own (drop l.i l.all)
