use Rattle.std.proofs.Common.{sym, subst}
use Rattle.rv_words.specs.Ranges.{AreRanges}
use Rattle.rv_words.specs.Ranges.{range_bytes}
use Rattle.sep_assert.specs.Code.{Agree}
use Rattle.sep_assert.proofs.JoinLemmas.{is_range-at, merged-first, merged-second}
use Rattle.sep_assert.proofs.joining.code_join.Goals as goal

pub add_range-requires-clause-range : goal.add_range-requires-clause-range
add_range-requires-clause-range c =
    let are = subst AreRanges (sym c.as_slice-a.ensures) c.requires.first in
    is_range-at c.as_slice-a.result.now c.loop-i.i c.index-a-i.result are (c.begins_first.ensures.yes c.if-begins_first.true).within c.index-a-i.is

pub loop-i-preserved-then-begins_first : goal.loop-i-preserved-then-begins_first
loop-i-preserved-then-begins_first c =
    let are = subst AreRanges (sym c.as_slice-a.ensures) c.requires.first in
    let agree = subst (λ rs. Agree (range_bytes rs) (range_bytes c.as_slice-b.result.now)) (sym c.as_slice-a.ensures)
    (subst (λ rs. Agree (range_bytes c.args.a.now.ranges) (range_bytes rs)) (sym c.as_slice-b.ensures) c.requires.agree) in
    merged-first c.as_slice-a.result.now c.as_slice-b.result.now c.loop-i.i c.loop-i.j c.loop-i.ranges c.add_range.new.ranges c.index-a-i.result
    c.loop-i.invariant c.in_ok-add_range.ensures are agree c.index-a-i.is (c.begins_first.ensures.yes c.if-begins_first.true)

pub add_range-requires-else-begins_first-clause-range : goal.add_range-requires-else-begins_first-clause-range
add_range-requires-else-begins_first-clause-range c =
    let are = subst AreRanges (sym c.as_slice-b.ensures) c.requires.second in
    is_range-at c.as_slice-b.result.now c.loop-i.j c.index-b-j.result are (c.begins_first.ensures.no c.if-begins_first.false).within c.index-b-j.is

pub loop-i-preserved : goal.loop-i-preserved
loop-i-preserved c =
    let are = subst AreRanges (sym c.as_slice-b.ensures) c.requires.second in
    merged-second c.as_slice-a.result.now c.as_slice-b.result.now c.loop-i.i c.loop-i.j c.loop-i.ranges c.add_range-else-begins_first.new.ranges c.index-b-j.result
    c.loop-i.invariant c.in_ok-add_range-2.ensures are c.index-b-j.is (c.begins_first.ensures.no c.if-begins_first.false)
