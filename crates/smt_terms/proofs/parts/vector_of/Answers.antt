use Rattle.std.proofs.Common.{false, arith}
use Rattle.smt_terms.specs.Meaning.{literal_number, numeral}
use Rattle.smt_terms.specs.declared.datum.Datum.TheVariants as datum
use Rattle.smt_terms.proofs.Splitting.{literal_stands, far_stands, none_stands, no_numeral_stands}
use Rattle.smt_terms.proofs.parts.vector_of.Goals.{in_default-small_numeral-via-in-Some-small_numeral+then-width-gt0+else-width-le128, in_default-small_numeral-via-in-Some-small_numeral+else-width-gt0, in_default-small_numeral-via-in_default-small_numeral}
use Rattle.smt_terms.proofs.parts.vector_of.Goals as goal

pub returns-in-Some-small_numeral : goal.returns-in-Some-small_numeral
returns-in-Some-small_numeral c =
    literal_stands (literal_number c.args.number.now) (numeral c.args.width.now) _ _ c.in-Some.number c.in-Some-small_numeral.width c.new.result
    c.literal_number.ensures c.in-Some.is c.small_numeral.ensures c.in-Some-small_numeral.is (omega arith) (omega arith) c.new.ensures.width c.new.ensures.number

pub returns-in_default-small_numeral : goal.returns-in_default-small_numeral
returns-in_default-small_numeral c = elim c.in_default-small_numeral.branch [
  | in_default-small_numeral-via-in-Some-small_numeral+then-width-gt0+else-width-le128 w ↦
      far_stands (literal_number c.args.number.now) (numeral c.args.width.now) _ _ (datum.Truth false) c.small_numeral.ensures w.in-Some-small_numeral.is (omega (arith, w.if-width-le128.false))
  | in_default-small_numeral-via-in-Some-small_numeral+else-width-gt0 w ↦
      none_stands (literal_number c.args.number.now) (numeral c.args.width.now) _ _ (datum.Truth false) c.small_numeral.ensures w.in-Some-small_numeral.is (omega (arith, w.if-width-gt0.false))
  | in_default-small_numeral-via-in_default-small_numeral w ↦
      no_numeral_stands (literal_number c.args.number.now) (numeral c.args.width.now) _ (datum.Truth false) c.small_numeral.ensures w.in_default-small_numeral.is
]
