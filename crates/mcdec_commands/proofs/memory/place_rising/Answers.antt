use Rattle.std.proofs.Common.{refl, ◌∙◌}
use Rattle.std.specs.FinMap.{get}
use Rattle.rv_words.specs.Bytes.{bytes_from, over}
use Rattle.mcdec_commands.specs.Memory.{placed}
use Rattle.mcdec_commands.proofs.PlacedTwice.{placed-absorbs}
use Rattle.mcdec_commands.proofs.memory.place_rising.Goals as goal
use Rattle.mcdec_commands.proofs.memory.place_rising.Goals.{in-Some+in_ok-place, in_default}

pub loop-start-init : goal.loop-start-init
loop-start-init c = refl

pub loop-start-preserved : goal.loop-start-preserved
loop-start-preserved c =
    let rs = c.args.ranges.now in
    elim c.match-get.branch [
      | in-Some+in_ok-place w ↦ (λ i. placed rs (get (w.memory-is i))) ∙ (λ i. placed rs (w.in_ok-place.ensures.ok i)) ∙ (λ i. placed rs (over (bytes_from w.in-Some.range.now.at (w.as_slice.ensures i)) (get c.loop-start.memory)))
          ∙ placed-absorbs rs _ w.in-Some.range.now (get c.loop-start.memory) w.in-Some.ensures.lookup.0 w.in-Some.ensures.lookup.1 ∙ c.loop-start.invariant
      | in_default w ↦ (λ i. placed rs (get (w.memory-is i))) ∙ c.loop-start.invariant
    ]

pub returns : goal.returns
returns c = c.loop-start.invariant
