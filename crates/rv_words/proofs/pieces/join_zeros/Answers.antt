use Rattle.std.proofs.Common.{◌≡◌, ◌-◌, ◌+◌, ◌≤◌, ◌∷◌, ◌++◌, take, drop, replicate, ◌∙◌, sym, subst, arith}
use Rattle.rv_words.specs.declared.pieces.Piece.{Piece}
use Rattle.rv_words.specs.inner.Pieces.{end}
use Rattle.rv_words.proofs.PieceLemmas.{replaced_range, joined_rise, joined_in, joined_holds}
use Rattle.rv_words.proofs.pieces.join_zeros.Goals as goal

-- the new piece
abbrev piece : goal.After-remove_range → Piece
piece c = record { at = c.min-at.result; bytes = c.in_ok-bytes.bytes }

left : (c : goal.After-remove_range) → c.remove_range.new.pieces.items ≡ take c.args.first c.args.pieces.now.items ++ piece c ∷ drop c.args.last c.args.pieces.now.items
left c = c.remove_range.ensures ∙ replaced_range c.args.pieces.now.items c.args.first c.args.last (piece c) c.requires.ordered (omega arith)

reach : (c : goal.After-remove_range) → c.args.a ≤ end c.index-head.result.now
reach c = subst (λ (x : Piece). c.args.a ≤ end x) (sym c.index-head.ensures) (c.requires.reaches c.index-head.result.now)

begin : (c : goal.After-remove_range) → c.index-tail.result.now.at ≤ c.args.a + c.args.n
begin c = subst (λ (x : Piece). x.at ≤ c.args.a + c.args.n) (sym c.index-tail.ensures) (c.requires.begins c.index-tail.result.now)

bytes : (c : goal.After-remove_range) → c.in_ok-bytes.bytes.items ≡ take (c.args.a - c.index-head.result.now.at) c.index-head.result.now.bytes.items ++ replicate c.args.n 0
    ++ drop (c.args.a + c.args.n - c.index-tail.result.now.at) c.index-tail.result.now.bytes.items
bytes c = c.in_ok-bytes.ensures ∙ (λ i. c.before-2.ensures i ++ replicate c.args.n 0 ++ c.after.ensures i)

pub returns-clause-pieces : goal.returns-clause-pieces
returns-clause-pieces c =
    rw (left c)
    (joined_rise c.args.pieces.now.items c.args.first c.args.last c.args.a c.args.n c.index-head.result.now c.index-tail.result.now (piece c)
    c.requires.pieces c.requires.ordered (omega arith) c.requires.some c.requires.fits c.requires.before c.requires.after
    c.index-head.ensures c.index-tail.ensures (reach c) (begin c) c.min-at.ensures (bytes c))

pub returns-clause-cleared : goal.returns-clause-cleared
returns-clause-cleared c =
    rw (left c)
    (joined_in c.args.pieces.now.items c.args.first c.args.last c.args.a c.args.n c.index-head.result.now c.index-tail.result.now (piece c)
    c.requires.pieces c.requires.ordered (omega arith) c.requires.some c.requires.fits c.requires.before c.requires.after
    c.index-head.ensures c.index-tail.ensures (reach c) (begin c) c.min-at.ensures (bytes c))

pub returns-clause-held : goal.returns-clause-held
returns-clause-held c =
    rw (left c)
    (joined_holds c.args.pieces.now.items c.args.first c.args.last c.args.a c.args.n c.index-head.result.now c.index-tail.result.now (piece c)
    c.requires.pieces c.requires.ordered (omega arith) c.requires.some c.requires.fits c.requires.before c.requires.after
    c.index-head.ensures c.index-tail.ensures (reach c) (begin c) c.min-at.ensures (bytes c))
