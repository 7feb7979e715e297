use Rattle.std.proofs.Common.{map, take}
use Rattle.std.specs.List.{Contains}
use Rattle.held_terms.specs.Held.{fact_of}
use Rattle.held_terms.proofs.way.place_among.Given as goal

abbrev pub invariant-loop-place : goal.invariant-loop-place
invariant-loop-place l = Contains (map (fact_of l.arena) (take l.place l.facts)) (fact_of l.arena l.fact) → ⊥
