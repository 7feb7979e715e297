use Rattle.std.proofs.Common.{ap, sym, ◌∙◌, List as Items}
use Rattle.mc_text.specs.Reading.{star, is_open}
use Rattle.mc_text.specs.inner.Reading.{with_prefix}
use Rattle.mc_text.specs.Scanning.{tokens_at}
use Rattle.mc_text.proofs.Star.{star-more, star-ends}
use Rattle.rv_words.specs.declared.range.Range.{Range}
use Rattle.group_text.specs.TermReading.{range_at}
use Rattle.group_text.proofs.TermLaws.{range-shrinks}
use Rattle.mc_text.proofs.StarReads.{star-stopped}
use Rattle.group_text.proofs.term_lists.read_ranges.Goals as goal

pub each-smaller : goal.each-smaller
each-smaller c = range-shrinks _ _ _ c.in-Ok.ensures.gives

pub each-preserved : goal.each-preserved
each-preserved c = record {
  told = ap (λ (front : Items Range). with_prefix front (star is_open range_at (tokens_at c.read_range.new.scan))) c.in_ok-push-in-Ok.ensures.ok
      ∙ star-more is_open range_at range-shrinks c.each.ranges _ _ _ _ (sym c.each-test.ensures) c.in-Ok.ensures.gives c.each.invariant.told;
  last = c.in-Ok.ensures.last ∙ c.each.invariant.last;
}

pub returns-in-Err-clause-gives : goal.returns-in-Err-clause-gives
returns-in-Err-clause-gives c = star-stopped (λ (r : Range). r) (λ (rs : Items Range). rs) is_open range_at range-shrinks c.in-Err.stop c.each.ranges c.args.scan.now c.each.scan c.read_range.new.scan (sym c.each-test.ensures) c.in-Err.ensures.gives c.each.invariant.told

pub returns-clause-gives : goal.returns-clause-gives
returns-clause-gives c = star-ends is_open range_at range-shrinks c.each.ranges _ _ (sym c.each-test.ensures) c.each.invariant.told
