use Rattle.std.proofs.Common.{sym, subst, take_all, refl, ◌∙◌}
use Rattle.std.specs.Prelude.{All}
use Rattle.std.proofs.lemmas.List.Elements.{All-more}
use Rattle.rv_words.specs.Bytes.{over}
use Rattle.rv_words.specs.Ranges.{range_bytes}
use Rattle.sep_assert.specs.inner.Code.{AreSameAt}
use Rattle.sep_assert.proofs.CodeLemmas.{within_of_all, all_of_within}
use Rattle.sep_assert.proofs.SearchLemmas.{same-in}
use Rattle.sep_assert.proofs.code.are_found_in.Goals as goal

pub returns-then-not-are_bytes_at : goal.returns-then-not-are_bytes_at
returns-then-not-are_bytes_at c = (
  λ e. absurd (cc),
  λ within.
      let so_far = c.loop-range.invariant in
      let bytes = over (range_bytes c.args.b.now) (range_bytes c.args.c.now) in
      let here = all_of_within c.args.a.now bytes within c.loop-range.range-index c.range-item.result c.loop-range-test.true in
      let yes = c.are_bytes_at.ensures.is.1
      (same-in c.args.a.now c.args.b.now c.args.c.now c.loop-range.in_a c.loop-range.in_b c.loop-range.in_c c.range-item.result (sym so_far.first) (sym so_far.second) (sym so_far.third)
      (subst (AreSameAt (range_bytes c.args.a.now) bytes) (sym c.range-item.is) here)) in
      absurd (cc),
)

pub loop-range-preserved : goal.loop-range-preserved
loop-range-preserved c =
    let so_far = c.loop-range.invariant in
    let P = AreSameAt (range_bytes c.args.a.now) (over (range_bytes c.args.b.now) (range_bytes c.args.c.now)) in
    let here = same-in c.loop-range.in_a c.loop-range.in_b c.loop-range.in_c c.args.a.now c.args.b.now c.args.c.now c.range-item.result so_far.first so_far.second so_far.third
    (c.are_bytes_at.ensures.is.0 c.if-not-are_bytes_at.false) in
    record {
      same = All-more P c.args.a.now c.loop-range.range-index c.range-item.result c.loop-range-test.true so_far.same (subst P c.range-item.is here);
      first = c.are_bytes_at.ensures.first ∙ so_far.first;
      second = c.are_bytes_at.ensures.second ∙ so_far.second;
      third = c.are_bytes_at.ensures.third ∙ so_far.third;
    }

pub returns : goal.returns
returns c =
    let bytes = over (range_bytes c.args.b.now) (range_bytes c.args.c.now) in
    let P = AreSameAt (range_bytes c.args.a.now) bytes in
    (λ e. within_of_all c.args.a.now bytes (subst (All P) (take_all c.loop-range.range-index c.args.a.now c.loop-range-test.false) c.loop-range.invariant.same), λ within. refl)
