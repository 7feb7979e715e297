use Rattle.std.proofs.Common.{subst, take_all}
use Rattle.std.specs.Prelude.{All}
use Rattle.std.proofs.lemmas.List.Elements.{All-more}
use Rattle.rv_words.specs.Bytes.{over}
use Rattle.rv_words.specs.Ranges.{range_bytes}
use Rattle.sep_assert.proofs.PieceTests.{LiesIn, each-within}
use Rattle.sep_assert.proofs.pieces.are_pieces_of.Goals as goal

pub loop-range-preserved : goal.loop-range-preserved
loop-range-preserved c =
    let P = LiesIn (over (range_bytes c.args.b.now) (range_bytes c.args.c.now)) in
    All-more P c.args.a.now c.loop-range.range-index c.range-item.result c.loop-range-test.true c.loop-range.invariant (subst P c.range-item.is (c.is_piece.ensures c.if-not-is_piece.false))

pub returns : goal.returns
returns c =
    let y = over (range_bytes c.args.b.now) (range_bytes c.args.c.now) in
    λ e. each-within c.args.a.now y (subst (All (LiesIn y)) (take_all c.loop-range.range-index c.args.a.now c.loop-range-test.false) c.loop-range.invariant)
