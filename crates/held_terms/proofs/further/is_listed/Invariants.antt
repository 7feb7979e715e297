use Rattle.std.proofs.Common.{◌≡◌, drop}
use Rattle.frame_compose.specs.Rules.{is_listed}
use Rattle.held_terms.proofs.further.is_listed.Given as goal

-- those so far haven't that number
abbrev pub invariant-loop-register : goal.invariant-loop-register
invariant-loop-register l = is_listed (drop l.register-index l.own) l.number ≡ is_listed l.own l.number
