use Rattle.std.proofs.Common.{◌<◌, Bool, List, length, ap, sym, ◌∙◌, subst}
use Rattle.verdicts.specs.Instance.{with_closed}
use Rattle.verdicts.specs.Sound.{Sound}
use Rattle.checker.specs.Bench.{BenchState, state_group, state_history}
use Rattle.checker.specs.inner.Bench.{IsSoundState}
use Rattle.checker.proofs.BenchLemmas.{history_closed, sound_closed}
use Rattle.checker.proofs.bench.Bench.set_closed.Goals as goal

pub set-requires : goal.set-requires
set-requires c = subst (λ (k : BenchState). c.args.def < length k.4) (sym c.self.view_is) c.requires.within

pub invariant_of-self : goal.invariant_of-self
invariant_of-self c =
    let s = c.self.inside in
    let low = subst (λ (k : BenchState). c.args.def < length k.4) (sym c.self.view_is) c.requires.within in
    let sound = subst (λ (k : BenchState). Sound (state_group k) (with_closed c.args.def (state_history k))) (sym c.self.view_is) c.requires.sound in (
      subst (λ (cs : List Bool). IsSoundState (s.group.now, s.arena, s.held.entries, s.next, cs)) (sym c.set.ensures) (sound_closed s.group.now s.arena s.held.entries s.next s.closed c.args.def low c.self.invariant.0 sound),
      c.self.invariant.1,
    )

pub returns-clause-after : goal.returns-clause-after
returns-clause-after c =
    let s = c.self.inside in
    let low = subst (λ (k : BenchState). c.args.def < length k.4) (sym c.self.view_is) c.requires.within in
    ap (λ (cs : List Bool). state_history (s.group.now, s.arena, s.held.entries, s.next, cs)) c.set.ensures ∙ history_closed s.group.now s.arena s.held.entries s.next s.closed c.args.def low
    ∙ ap (λ (k : BenchState). with_closed c.args.def (state_history k)) c.self.view_is
