use Rattle.std.proofs.Common.{◌≡◌, take}
use Rattle.held_terms.proofs.copies.copy_facts.Given as goal

abbrev pub invariant-loop-fact : goal.invariant-loop-fact
invariant-loop-fact l = l.copies ≡ take l.fact-index l.facts
