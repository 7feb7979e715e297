use Rattle.std.proofs.Common.{None, ap, sym, ◌∙◌, subst}
use Rattle.proof_text.specs.Line.{Forget}
use Rattle.verdicts.specs.Instance.{without}
use Rattle.verdicts.specs.Sound.{Sound}
use Rattle.checker.specs.Bench.{BenchState, state_group, state_history}
use Rattle.checker.proofs.BenchLemmas.{history_less, sound_less}
use Rattle.group_text.specs.declared.version.Version.TheVariants.{One}
use Rattle.checker.proofs.bench.Bench.forget.Goals as goal

pub invariant_of-self : goal.invariant_of-self
invariant_of-self c =
    let old = c.args.self.now in
    let s = c.self.inside in
    let after = c.law_of_lines.ensures One (state_group old) c.law_of_bench.ensures.well_formed (state_history old) c.law_of_bench.ensures.sound (Forget c.args.k) (sym c.is_held.ensures ∙ c.if-not-is_held.false) in
    let sound = subst (λ (k : BenchState). Sound (state_group k) (without c.args.k (state_history k))) (sym c.self.view_is) after in (
      sound_less s.group.now s.arena s.held.entries s.next s.closed c.remove-gone.new.self.entries c.args.k c.remove-gone.ensures.updates.0 c.self.invariant.0 sound,
      record {
        code = c.self.invariant.1.code;
        theorems = c.remove.ensures.changed s.group.now.code.ranges s.held.entries c.remove-gone.new.self.entries None c.remove-gone.ensures.updates.0 c.self.invariant.1.theorems;
      },
    )

pub returns-clause-after : goal.returns-clause-after
returns-clause-after c =
    let s = c.self.inside in
    history_less s.group.now s.arena s.held.entries s.next s.closed c.remove-gone.new.self.entries c.args.k c.remove-gone.ensures.updates.0 ∙ ap (λ (k : BenchState). without c.args.k (state_history k)) c.self.view_is
