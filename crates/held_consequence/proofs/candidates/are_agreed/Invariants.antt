use Rattle.std.proofs.Common.{take}
use Rattle.std.specs.Prelude.{All}
use Rattle.held_consequence.specs.inner.Classes.{IsAgreed}
use Rattle.held_consequence.proofs.candidates.are_agreed.Given as goal

abbrev pub invariant-loop-fact : goal.invariant-loop-fact
invariant-loop-fact l = All (IsAgreed l.classes) (take l.fact-index l.facts)
