use Rattle.std.proofs.Common.{◌≡◌, map, ◌∙◌, arith}
use Rattle.std.proofs.lemmas.List.{take_all}
use Rattle.rv_words.proofs.PieceLemmas.{block_of, copied_rise, copied_bytes}
use Rattle.rv_words.proofs.pieces.copy_all.Goals as goal

all : (c : goal.After-loop-piece) → map block_of c.loop-piece.copies.items ≡ map block_of c.args.pieces.now
all c = c.loop-piece.invariant ∙ (λ j. map block_of (take_all c.loop-piece.piece-index c.args.pieces.now (omega arith) j))

pub returns-clause-pieces : goal.returns-clause-pieces
returns-clause-pieces c = copied_rise c.loop-piece.copies.items c.args.pieces.now (all c) c.requires

pub returns-clause-bytes : goal.returns-clause-bytes
returns-clause-bytes c = copied_bytes c.loop-piece.copies.items c.args.pieces.now (all c)
