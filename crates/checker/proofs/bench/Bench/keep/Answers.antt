use Rattle.std.proofs.Common.{Some, ap, sym, ◌∙◌, subst}
use Rattle.held_terms.specs.Held.{IsHeldAt, triple_of}
use Rattle.verdicts.specs.Instance.{with_theorem}
use Rattle.verdicts.specs.Sound.{Sound}
use Rattle.checker.specs.Bench.{BenchState, state_group, state_history, state_nodes}
use Rattle.checker.proofs.BenchLemmas.{history_more, sound_more}
use Rattle.held_definitions.specs.inner.Marks.{HasWithin}
use Rattle.held_definitions.specs.Theorems.{Theorems}
use Rattle.held_definitions.specs.inner.Marks.{IsOwnKept}
use Rattle.checker.specs.inner.Bench.{IsSoundState}
use Rattle.checker.proofs.bench.Bench.keep.Goals as goal

pub invariant_of-self : goal.invariant_of-self
invariant_of-self c =
    let s = c.self.inside in
    subst (λ (es : Theorems). IsSoundState (s.group.now, s.arena, es, s.next, s.closed) × IsOwnKept s.group.now s.code es c.remove.new.self) (sym c.in_err-insert.ensures.err)
    (c.self.invariant.0, record { code = c.self.invariant.1.code; theorems = c.remove.ensures.same s.group.now.code.ranges s.held.entries c.self.invariant.1.theorems })

pub invariant_of-self-2 : goal.invariant_of-self-2
invariant_of-self-2 c =
    let s = c.self.inside in
    let h = c.args.h in
    let there = subst (λ (k : BenchState). IsHeldAt (state_nodes k) h) (sym c.self.view_is) c.requires.there in
    let sound = subst (λ (k : BenchState). Sound (state_group k) (with_theorem (triple_of (state_nodes k) h) (state_history k))) (sym c.self.view_is) c.requires.sound in (
      sound_more s.group.now s.arena s.held.entries s.next s.closed c.insert.new.self.entries c.in-Some.next h c.in_ok-insert.ensures.updates.0 c.in-Some.ensures.1 c.self.invariant.0 there sound,
      record {
        code = c.self.invariant.1.code;
        theorems = c.add.ensures s.group.now.code.ranges s.held.entries c.insert.new.self.entries h c.in_ok-insert.ensures.updates.0
            (λ is. c.requires.own is ∙ sym (ap (λ (k : BenchState). (state_group k).code) c.self.view_is))
            (λ is. subst (λ (k : BenchState). HasWithin (state_group k).code h) (sym c.self.view_is) (c.requires.within is))
            (c.remove.ensures.changed s.group.now.code.ranges s.held.entries c.insert.new.self.entries (Some h) c.in_ok-insert.ensures.updates.0 c.self.invariant.1.theorems);
      },
    )

pub returns-clause-after : goal.returns-clause-after
returns-clause-after c =
    let s = c.self.inside in
    let h = c.args.h in
    history_more s.group.now s.arena s.held.entries s.next s.closed c.insert.new.self.entries c.in-Some.next h c.in_ok-insert.ensures.updates.0 c.in-Some.ensures.1 ∙ ap (λ (k : BenchState). with_theorem (triple_of (state_nodes k) h) (state_history k)) c.self.view_is
