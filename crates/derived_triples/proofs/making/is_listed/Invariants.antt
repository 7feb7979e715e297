use Rattle.std.proofs.Common.{◌≡◌, false, take}
use Rattle.frame_compose.specs.Rules.{is_listed}
use Rattle.derived_triples.proofs.making.is_listed.Given as goal

abbrev pub invariant-loop-register : goal.invariant-loop-register
invariant-loop-register l = is_listed (take l.register-index l.own) l.number ≡ false
