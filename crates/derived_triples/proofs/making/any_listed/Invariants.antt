use Rattle.std.proofs.Common.{◌≡◌, All, false, take}
use Rattle.frame_compose.specs.Rules.{is_listed}
use Rattle.derived_triples.proofs.making.any_listed.Given as goal

abbrev pub invariant-loop-register : goal.invariant-loop-register
invariant-loop-register l = All (λ r. is_listed l.own r.0 ≡ false) (take l.register-index l.more)
