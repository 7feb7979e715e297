use Rattle.std.proofs.Common.{refl, ◌∙◌}
use Rattle.rv_words.specs.Bytes.{bytes_from}
use Rattle.rv_machine.specs.State.{state_of, with_bytes}
use Rattle.mcdec_commands.proofs.PlacedTwice.{placed-absorbs}
use Rattle.mcdec_commands.specs.inner.Running.{with_placed}
use Rattle.mcdec_commands.proofs.run.place_rising.Goals as goal
use Rattle.mcdec_commands.proofs.run.place_rising.Goals.{in-Some+in_ok-place, in_default}

pub loop-start-init : goal.loop-start-init
loop-start-init c = refl

pub loop-start-preserved : goal.loop-start-preserved
loop-start-preserved c =
    let rs = c.args.ranges.now in
    let s = state_of c.loop-start.state in
    elim c.match-get.branch [
      | in-Some+in_ok-place w ↦ (λ i. with_placed rs (state_of (w.state-is i))) ∙ (λ i. with_placed rs (w.in_ok-place.ensures.ok i)) ∙ (λ i. with_placed rs (with_bytes (bytes_from w.in-Some.range.now.at (w.as_slice.ensures i)) s))
          ∙ (λ i. record s { mem = placed-absorbs rs _ w.in-Some.range.now s.mem w.in-Some.ensures.lookup.0 w.in-Some.ensures.lookup.1 i }) ∙ c.loop-start.invariant
      | in_default w ↦ (λ i. with_placed rs (state_of (w.state-is i))) ∙ c.loop-start.invariant
    ]

pub returns : goal.returns
returns c = c.loop-start.invariant
