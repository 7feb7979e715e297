use Rattle.std.proofs.Common.{sym, ◌∙◌, arith}
use Rattle.std.proofs.lemmas.Bool.{eqb-true}
use Rattle.std.proofs.lemmas.Bool.Decides.{Decides-eqb}
use Rattle.std.proofs.lemmas.Slice.Eq.{slice_eq-Decides}
use Rattle.sep_assert.proofs.PieceTests.{none-within, part-within}
use Rattle.sep_assert.proofs.pieces.lie_in.Goals as goal

pub returns-then-is_empty : goal.returns-then-is_empty
returns-then-is_empty c = λ e. none-within c.args.at c.args.bytes.now _ (eqb-true _ _ (sym c.is_empty.ensures ∙ c.if-is_empty.true))

pub returns-in-Some : goal.returns-in-Some
returns-in-Some c = λ e. rw (← c.from-start.ensures, ← c.as_slice.ensures) (part-within c.from-start.result c.args.at c.as_slice.result.now c.args.bytes.now
    (omega (arith, c.if-at-start.false))
    c.in-Some.ensures.fits
    (sym ((slice_eq-Decides Decides-eqb c.in-Some.there.now c.args.bytes.now c.eq.result c.eq.ensures).0 e) ∙ c.in-Some.ensures.is))
