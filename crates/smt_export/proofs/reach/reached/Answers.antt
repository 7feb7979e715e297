use Rattle.std.proofs.Common.{◌≡◌, ◌+◌, ◌-◌, length, sym, subst, arith}
use Rattle.std.specs.Prelude.{◌↔◌, IsTrue}
use Rattle.std.proofs.lemmas.List.{length_push}
use Rattle.tailrec_lang.specs.Tree.{group_tree}
use Rattle.smt_export.specs.inner.Reach.{AreMarks, IsCalled}
use Rattle.smt_export.proofs.Reached.{marks_next}
use Rattle.smt_export.proofs.reach.reached.Goals as goal

pub loop-i-preserved : goal.loop-i-preserved
loop-i-preserved c =
    let g = group_tree c.args.g.now in
    let marks = c.loop-i.marks in
    let mark = c.is_called-mark.result in
    let called = subst (λ l. IsTrue mark ↔ IsCalled g c.args.def l (c.args.def - 1 - c.loop-i.i)) c.as_slice.ensures c.is_called-mark.ensures in
    let long = length_push marks mark in
    let count = c.loop-i.invariant.0 in
    subst (λ l. (length l ≡ c.loop-i.i + 1 + 1) × AreMarks g c.args.def l) (sym c.in_ok-push-2.ensures.ok)
    (omega (arith, long, count), marks_next g c.requires.well_formed c.args.def marks mark c.loop-i.i c.loop-i.invariant.1 count c.loop-i-test.true called)
