use Rattle.std.proofs.Common.{◌≡◌, get_or, refl}
use Rattle.rv_words.specs.declared.pieces.Piece.{Piece}
use Rattle.rv_words.proofs.PieceLemmas.{written_rise, written}
use Rattle.rv_words.proofs.pieces.write_in.Goals as goal

-- the piece before the write
abbrev piece : goal.After-overwrite → Piece
piece c = get_or c.args.pieces.now c.args.i c.index-pieces-i.result

was : (c : goal.After-overwrite) → piece c ≡ get_or c.args.pieces.now c.args.i (piece c)
was c = λ j. get_or c.args.pieces.now c.args.i (c.index-pieces-i.is j)

pub returns-clause-pieces : goal.returns-clause-pieces
returns-clause-pieces c = written_rise c.args.pieces.now c.args.i c.args.a c.args.bytes.now (piece c) _ c.requires.pieces c.requires.held (was c) refl c.overwrite.ensures

pub returns-clause-written : goal.returns-clause-written
returns-clause-written c = written c.args.pieces.now c.args.i c.args.a c.args.bytes.now (piece c) _ c.requires.pieces c.requires.held (was c) refl c.overwrite.ensures
