use Rattle.std.proofs.Common.{◌+◌, ◌≤◌, map, ap, ◌∙◌, subst, IfOk, IsTrue}
use Rattle.std.specs.Prelude.{◌↔◌, slice_get}
use Rattle.term_arena.specs.Arena.{Extends}
use Rattle.loop_rule.specs.Rule.{IsClosedBy}
use Rattle.checker.specs.Bench.{BenchState, state_group, state_history, state_nodes}
use Rattle.held_definitions.specs.ClosingTerms.{closing_terms}
use Rattle.held_terms.specs.Terms.{nodes_of}
use Rattle.checker.proofs.BenchLemmas.{history_stays, sound_grown}
use Rattle.checker.proofs.bench.Bench.is_closed_by.Goals as goal

pub is_closed_by-requires-clause-held : goal.is_closed_by-requires-clause-held
is_closed_by-requires-clause-held g c = c.self.invariant.0.there

pub is_closed_by-requires-clause-marked : goal.is_closed_by-requires-clause-marked
is_closed_by-requires-clause-marked g c = c.self.invariant.1.theorems

pub invariant_of-self : goal.invariant_of-self
invariant_of-self g c =
    let s = c.self.inside in
    let grows = c.is_closed_by.ensures.grows in
    (sound_grown s.arena c.is_closed_by.new.arena grows s.group.now s.held.entries s.next s.closed c.self.invariant.0, c.self.invariant.1)

pub returns-clause-same : goal.returns-clause-same
returns-clause-same g c =
    let s = c.self.inside in
    history_stays s.arena c.is_closed_by.new.arena c.is_closed_by.ensures.grows s.group.now s.held.entries s.next s.closed c.self.invariant.0.there ∙ ap state_history c.self.view_is

pub returns-clause-grows : goal.returns-clause-grows
returns-clause-grows g c = subst (λ (k : BenchState). Extends (state_nodes k) c.is_closed_by.new.arena) c.self.view_is c.is_closed_by.ensures.grows

pub returns-clause-answer : goal.returns-clause-answer
returns-clause-answer g c =
    subst (λ (k : BenchState). IfOk c.is_closed_by.result (λ r. IsTrue r ↔ IsClosedBy (state_group k) c.args.def (map (state_history k).theorem c.args.cited.now))) c.self.view_is c.is_closed_by.ensures.answer

pub returns-clause-steps : goal.returns-clause-steps
returns-clause-steps g c =
    subst (λ (k : BenchState). c.is_closed_by.new.steps ≤ c.args.steps.now + nodes_of (closing_terms (state_group k) (slice_get (state_group k).defs c.args.def))) c.self.view_is c.is_closed_by.ensures.steps
