use Rattle.std.proofs.Common.{sym, ◌∙◌}
use Rattle.rv_words.specs.Bytes.{bytes_from}
use Rattle.rv_words.specs.Ranges.{range_bytes}
use Rattle.sep_assert.proofs.PieceTests.{in-first, in-both, renamed, some-length}
use Rattle.sep_assert.proofs.pieces.is_piece.Goals as goal

pub returns-then-lie_in : goal.returns-then-lie_in
returns-then-lie_in c = λ e. in-first (bytes_from c.args.range.now.at c.args.range.now.bytes) (range_bytes c.args.c.now) c.args.b.now c.index-b-0.result
    (some-length _ (sym c.is_empty.ensures ∙ c.if-is_empty.false)) c.index-b-0.is
    (renamed c.from.result _ c.as_slice.result.now _ _ c.from.ensures c.as_slice.ensures (c.lie_in.ensures c.if-lie_in.true))

pub returns : goal.returns
returns c = λ e. in-both _ c.args.b.now c.args.c.now c.index-b-0.result c.index-c-0.result
    (some-length _ (sym c.is_empty.ensures ∙ c.if-is_empty.false)) c.if-b-gt1.false c.index-b-0.is
    (some-length _ (sym c.is_empty-2.ensures ∙ c.if-is_empty-2.false)) c.index-c-0.is (c.is_joined.ensures e)
