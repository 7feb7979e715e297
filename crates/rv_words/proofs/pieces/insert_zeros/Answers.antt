use Rattle.std.proofs.Common.{refl}
use Rattle.rv_words.proofs.PieceLemmas.{inserted_rise, inserted}
use Rattle.rv_words.proofs.pieces.insert_zeros.Goals as goal

pub returns-clause-pieces : goal.returns-clause-pieces
returns-clause-pieces c =
    rw c.in_ok-insert.ensures.items
    (inserted_rise c.args.pieces.now.items c.args.i c.args.a c.args.n _ c.requires.pieces c.requires.some c.requires.fits c.requires.before c.requires.after refl c.in_ok-bytes.ensures)

pub returns-clause-cleared : goal.returns-clause-cleared
returns-clause-cleared c =
    rw c.in_ok-insert.ensures.items (inserted c.args.pieces.now.items c.args.i c.args.a c.args.n _ c.requires.pieces c.requires.before refl c.in_ok-bytes.ensures)
