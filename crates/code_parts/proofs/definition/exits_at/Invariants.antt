use Rattle.std.proofs.Common.{◌≡◌, map, take}
use Rattle.tailrec_lang.specs.declared.group.Exit.TheVariants.{At}
use Rattle.code_parts.specs.Kept.{flow_in}
use Rattle.code_parts.proofs.definition.exits_at.Given as goal

abbrev pub invariant-loop-n : goal.invariant-loop-n
invariant-loop-n l = l.exits ≡ map (λ n. At ((flow_in l.flow).addr n)) (take l.n-index l.nodes)
