use Rattle.std.proofs.Common.{map, take}
use Rattle.std.specs.List.{AllByRecursion}
use Rattle.held_terms.specs.Held.{fact_of}
use Rattle.proof_text.specs.LineLimits.{IsFact}
use Rattle.derived_triples.proofs.limits.are_facts.Given as goal

abbrev pub invariant-loop-fact : goal.invariant-loop-fact
invariant-loop-fact l = AllByRecursion IsFact (map (fact_of l.arena) (take l.fact-index l.facts))
