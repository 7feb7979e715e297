use Rattle.std.proofs.Common.{◌∙◌}
use Rattle.std.specs.FinMap.{get}
use Rattle.rv_words.specs.Bytes.{bytes_from, over}
use Rattle.mcdec_commands.proofs.SetUp.{placed-one-more}
use Rattle.mcdec_commands.proofs.memory.place_each.Goals as goal

pub loop-range-preserved : goal.loop-range-preserved
loop-range-preserved c =
    placed-one-more c.args.ranges.now (get c.args.memory.now) (get c.loop-range.memory) (get c.place.new.self) c.loop-range.range-index c.range-item.result c.loop-range-test.true c.range-item.is c.loop-range.invariant
    (c.in_ok-place.ensures.ok ∙ (λ i. over (bytes_from c.range-item.result.at (c.as_slice.ensures i)) (get c.loop-range.memory)))
