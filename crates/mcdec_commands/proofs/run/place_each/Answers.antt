use Rattle.std.proofs.Common.{◌∙◌}
use Rattle.rv_words.specs.Bytes.{bytes_from}
use Rattle.rv_machine.specs.State.{state_of, with_bytes}
use Rattle.mcdec_commands.proofs.SetUp.{ranges-more}
use Rattle.mcdec_commands.proofs.run.place_each.Goals as goal

pub loop-range-preserved : goal.loop-range-preserved
loop-range-preserved c =
    ranges-more c.args.ranges.now c.args.state.now c.loop-range.state c.place.new.self c.loop-range.range-index c.range-item.result c.loop-range-test.true c.range-item.is c.loop-range.invariant
    (c.in_ok-place.ensures.ok ∙ (λ i. with_bytes (bytes_from c.range-item.result.at (c.as_slice.ensures i)) (state_of c.loop-range.state)))
