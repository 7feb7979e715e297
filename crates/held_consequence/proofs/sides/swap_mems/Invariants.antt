use Rattle.std.proofs.Common.{map, take}
use Rattle.held_terms.specs.Held.{fact_of}
use Rattle.held_consequence.specs.inner.SideTables.{MemsSwap}
use Rattle.held_consequence.proofs.sides.swap_mems.Given as goal

abbrev pub invariant-loop-i : goal.invariant-loop-i
invariant-loop-i g l = MemsSwap l.arena (map (fact_of l.arena) l.facts) l.a l.b (take l.i l.a) (take l.i l.b) l.fn.known l.known l.fn.steps l.steps
