use Rattle.std.proofs.Common.{sym, inl, inr, ◌∙◌}
use Rattle.std.proofs.lemmas.Bool.{eqb-true, eqb-false}
use Rattle.mc_text.proofs.DigitValues.{no_number, plain_number}
use Rattle.mc_text.proofs.number.number_of.Goals.{then-is_empty-via-then-is_empty, then-is_empty-via-else-is_empty+then-is_padded}
use Rattle.mc_text.proofs.number.number_of.Goals as goal

pub returns-then-is_empty : goal.returns-then-is_empty
returns-then-is_empty c = elim c.then-is_empty.branch [
  | then-is_empty-via-then-is_empty w ↦ no_number c.args.base c.args.digits.now (inl (eqb-true _ _ (sym c.is_empty.ensures ∙ w.if-is_empty.true)))
  | then-is_empty-via-else-is_empty+then-is_padded w ↦ no_number c.args.base c.args.digits.now (inr (sym w.is_padded.ensures ∙ w.if-is_padded.true))
]

pub returns : goal.returns
returns c =
    plain_number c.args.base c.args.digits.now c.value_of.result (eqb-false _ _ (sym c.is_empty.ensures ∙ c.if-is_empty.false)) (sym c.is_padded.ensures ∙ c.if-is_padded.false)
    c.value_of.ensures
