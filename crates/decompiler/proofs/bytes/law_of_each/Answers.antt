use Rattle.std.proofs.Common.{subst, take_all}
use Rattle.std.specs.Prelude.{All}
use Rattle.std.proofs.lemmas.List.Elements.{All-more}
use Rattle.decompiler.specs.inner.CodeBytes.{HasBytes}
use Rattle.decompiler.proofs.bytes.law_of_each.Goals as goal

pub loop-piece-preserved : goal.loop-piece-preserved
loop-piece-preserved c =
    All-more HasBytes c.args.pieces.now c.loop-piece.piece-index c.piece-item.result c.loop-piece-test.true c.loop-piece.invariant
    (subst HasBytes c.piece-item.is c.law_of_piece.ensures)

pub returns : goal.returns
returns c = subst (All HasBytes) (take_all c.loop-piece.piece-index c.args.pieces.now c.loop-piece-test.false) c.loop-piece.invariant
