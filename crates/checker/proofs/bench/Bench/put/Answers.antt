use Rattle.std.proofs.Common.{ap, ◌∙◌, subst}
use Rattle.term_arena.specs.Arena.{Extends}
use Rattle.checker.specs.Bench.{BenchState, state_history, state_nodes}
use Rattle.checker.proofs.BenchLemmas.{history_stays, sound_grown}
use Rattle.checker.proofs.bench.Bench.put.Goals as goal

pub invariant_of-self : goal.invariant_of-self
invariant_of-self g c =
    let s = c.self.inside in
    let grows = c.put_over.ensures.grows in
    (sound_grown s.arena c.put_over.new.arena grows s.group.now s.held.entries s.next s.closed c.self.invariant.0, c.self.invariant.1)

pub returns-clause-same : goal.returns-clause-same
returns-clause-same g c =
    let s = c.self.inside in
    history_stays s.arena c.put_over.new.arena c.put_over.ensures.grows s.group.now s.held.entries s.next s.closed c.self.invariant.0.there ∙ ap state_history c.self.view_is

pub returns-clause-grows : goal.returns-clause-grows
returns-clause-grows g c = subst (λ (k : BenchState). Extends (state_nodes k) c.put_over.new.arena) c.self.view_is c.put_over.ensures.grows
