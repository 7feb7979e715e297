use Rattle.std.proofs.Common.{◌≡◌, map, take}
use Rattle.tailrec_lang.specs.Tree.{body_tree}
use Rattle.code_parts.specs.Bodies.{end_at}
use Rattle.code_parts.specs.Kept.{flow_in}
use Rattle.code_parts.specs.VariableMaps.{place_of}
use Rattle.code_parts.proofs.bodies.end_arms.Given as goal

abbrev pub invariant-loop-x : goal.invariant-loop-x
invariant-loop-x l = map body_tree l.arms ≡ map (λ x. end_at (flow_in l.flow) l.p x (place_of l.place)) (take l.x-index l.targets)
