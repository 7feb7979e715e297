use Rattle.std.proofs.Common.{◌≡◌, map, take}
use Rattle.code_parts.proofs.order.parts_in.Given as goal

abbrev pub invariant-loop-r : goal.invariant-loop-r
invariant-loop-r l = l.parts ≡ map (λ r. r.part) (take l.r-index l.all)
