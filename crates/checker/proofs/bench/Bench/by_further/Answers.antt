use Rattle.std.proofs.Common.{ap, sym, ◌∙◌, subst, IfOk, IsTrue}
use Rattle.std.specs.Prelude.{◌↔◌, IsSomeAnd}
use Rattle.term_arena.specs.Arena.{Extends}
use Rattle.held_terms.specs.Held.{IsHeldAt, triple_of}
use Rattle.checker.specs.Bench.{BenchState, state_group, state_history, state_nodes}
use Rattle.checker.proofs.BenchLemmas.{history_stays, sound_grown}
use Rattle.verdicts.specs.Further.{further_of}
use Rattle.checker.proofs.bench.Bench.by_further.Goals as goal

pub by_further-requires-clause-held : goal.by_further-requires-clause-held
by_further-requires-clause-held g c = c.self.invariant.0.there

pub by_further-requires-clause-stated : goal.by_further-requires-clause-stated
by_further-requires-clause-stated g c = subst (λ (k : BenchState). IsHeldAt (state_nodes k) c.args.put.now) (sym c.self.view_is) c.requires.put

pub is_known-known-requires-clause-marked : goal.is_known-known-requires-clause-marked
is_known-known-requires-clause-marked g c = c.self.invariant.1.theorems

pub is_known-known-requires-clause-own : goal.is_known-known-requires-clause-own
is_known-known-requires-clause-own g c = λ own. c.requires.own own ∙ sym (ap (λ (k : BenchState). (state_group k).code) c.self.view_is)

pub invariant_of-self : goal.invariant_of-self
invariant_of-self g c =
    let s = c.self.inside in
    let grows = c.by_further.ensures.grows in
    (sound_grown s.arena c.by_further.new.arena grows s.group.now s.held.entries s.next s.closed c.self.invariant.0, c.self.invariant.1)

pub returns-clause-same : goal.returns-clause-same
returns-clause-same g c =
    let s = c.self.inside in
    history_stays s.arena c.by_further.new.arena c.by_further.ensures.grows s.group.now s.held.entries s.next s.closed c.self.invariant.0.there ∙ ap state_history c.self.view_is

pub returns-clause-grows : goal.returns-clause-grows
returns-clause-grows g c = subst (λ (k : BenchState). Extends (state_nodes k) c.by_further.new.arena) c.self.view_is c.by_further.ensures.grows

pub returns-clause-answer : goal.returns-clause-answer
returns-clause-answer g c =
    subst (λ (k : BenchState). IfOk c.by_further.result (λ r. IsTrue r ↔ IsSomeAnd ((state_history k).theorem c.args.cited) (λ p. (further_of c.args.version) p (triple_of (state_nodes k) c.args.put.now)))) c.self.view_is c.by_further.ensures.answer
