use Rattle.std.proofs.Common.{ap, sym, ◌∙◌, subst}
use Rattle.term_arena.specs.Arena.{AreChildren}
use Rattle.checker.specs.Bench.{BenchState, state_history, state_nodes}
use Rattle.checker.proofs.BenchLemmas.{history_stays, sound_grown}
use Rattle.checker.proofs.bench.Bench.add.Goals as goal

pub add-requires : goal.add-requires
add-requires g c = subst (λ (k : BenchState). AreChildren (state_nodes k) c.args.n) (sym c.self.view_is) c.requires

pub invariant_of-self : goal.invariant_of-self
invariant_of-self g c =
    let s = c.self.inside in
    let grows = c.add.ensures.grows in
    (sound_grown s.arena c.add.new.self grows s.group.now s.held.entries s.next s.closed c.self.invariant.0, c.self.invariant.1)

pub returns-clause-same : goal.returns-clause-same
returns-clause-same g c =
    let s = c.self.inside in
    history_stays s.arena c.add.new.self c.add.ensures.grows s.group.now s.held.entries s.next s.closed c.self.invariant.0.there ∙ ap state_history c.self.view_is
