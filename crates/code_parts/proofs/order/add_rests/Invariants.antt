use Rattle.std.proofs.Common.{◌≡◌, ◌++◌, [], map}
use Rattle.std.specs.List.{All}
use Rattle.code_parts.specs.Flows.{alone, flow_of}
use Rattle.code_parts.specs.inner.Ranks.{IsRanked, rests_to}
use Rattle.code_parts.proofs.order.add_rests.Given as goal

abbrev pub invariant-loop-n : goal.invariant-loop-n
invariant-loop-n l = record {
  parts : map (λ r. r.part) l.all.items ≡ map (λ r. r.part) l.fn.all.items ++ rests_to (flow_of l.graph l.forest (alone l.graph [])) l.n;
  ranked : All (IsRanked (flow_of l.graph l.forest (alone l.graph [])) l.forest) l.all.items;
}
