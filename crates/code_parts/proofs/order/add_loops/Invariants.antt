use Rattle.std.proofs.Common.{◌≡◌, ◌++◌, [], map}
use Rattle.std.specs.List.{All}
use Rattle.code_parts.specs.Flows.{alone, flow_of}
use Rattle.code_parts.specs.inner.Ranks.{IsRanked, loops_to}
use Rattle.code_parts.proofs.order.add_loops.Given as goal

abbrev pub invariant-loop-l : goal.invariant-loop-l
invariant-loop-l l = record {
  parts : map (λ r. r.part) l.all.items ≡ map (λ r. r.part) l.fn.all.items ++ loops_to l.l;
  ranked : All (IsRanked (flow_of l.graph l.forest (alone l.graph [])) l.forest) l.all.items;
}
