use Rattle.std.proofs.Common.{◌≡◌, ◌+◌, ◌-◌, ◌++◌, ℕ, List, take, drop, length, replicate, get_or, refl, sym, subst, ◌∙◌}
use Rattle.std.proofs.lemmas.List.{length-replicate}
use Rattle.rv_words.specs.declared.pieces.Piece.{Piece}
use Rattle.rv_words.specs.inner.Pieces.{Holds}
use Rattle.rv_words.proofs.PieceLemmas.{written_rise, written}
use Rattle.rv_words.proofs.pieces.clear_in.Goals as goal

-- the piece before the write
abbrev piece : goal.After-clear → Piece
piece c = get_or c.args.pieces.now c.args.i c.index-pieces-i.result

was : (c : goal.After-clear) → piece c ≡ get_or c.args.pieces.now c.args.i (piece c)
was c = λ j. get_or c.args.pieces.now c.args.i (c.index-pieces-i.is j)

-- the zeros, as a list, and their number
abbrev zeros : goal.After-clear → List ℕ
zeros c = replicate c.args.n 0

number : (c : goal.After-clear) → c.args.n ≡ length (zeros c)
number c = sym (length-replicate c.args.n 0)

held : (c : goal.After-clear) → Holds c.args.pieces.now c.args.i c.args.a (length (zeros c))
held c = subst (λ n. Holds c.args.pieces.now c.args.i c.args.a n) (number c) c.requires.held

bytes : (c : goal.After-clear) → c.clear.new.bytes.items ≡ take (c.args.a - (piece c).at) (piece c).bytes.items ++ (zeros c ++ drop (c.args.a - (piece c).at + length (zeros c)) (piece c).bytes.items)
bytes c = c.clear.ensures ∙ (λ j. take (c.args.a - (piece c).at) (piece c).bytes.items ++ (zeros c ++ drop (c.args.a - (piece c).at + number c j) (piece c).bytes.items))

pub returns-clause-pieces : goal.returns-clause-pieces
returns-clause-pieces c = written_rise c.args.pieces.now c.args.i c.args.a (zeros c) (piece c) _ c.requires.pieces (held c) (was c) refl (bytes c)

pub returns-clause-cleared : goal.returns-clause-cleared
returns-clause-cleared c = written c.args.pieces.now c.args.i c.args.a (zeros c) (piece c) _ c.requires.pieces (held c) (was c) refl (bytes c)
