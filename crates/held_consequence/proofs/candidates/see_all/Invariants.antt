use Rattle.held_terms.specs.Subterms.{HasFacts}
use Rattle.held_consequence.specs.inner.Alone.{Searched}
use Rattle.held_consequence.specs.inner.Classes.{AreClassed}
use Rattle.held_consequence.proofs.candidates.see_all.Given as goal

abbrev pub invariant-loop-fact : goal.invariant-loop-fact
invariant-loop-fact g l = record {
  classed : AreClassed l.arena l.forms l.leaves l.classes;
  searched : Searched l.arena (HasFacts l.arena l.facts) l.fn.classes l.classes l.fn.steps l.steps;
}
