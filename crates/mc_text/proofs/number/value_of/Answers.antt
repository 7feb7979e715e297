use Rattle.std.proofs.Common.{sym, subst, arith}
use Rattle.mc_text.specs.inner.Number.{base_number, ReadsDigits}
use Rattle.mc_text.proofs.Numbers.{base_number-low}
use Rattle.mc_text.proofs.DigitValues.{too_large, one_digit_more}
use Rattle.mc_text.proofs.number.value_of.Goals as goal

pub returns-in_err-checked_mul : goal.returns-in_err-checked_mul
returns-in_err-checked_mul c =
    let low = base_number-low c.args.base in
    let none = too_large (base_number c.args.base) c.radix.result c.args.digits.now c.digits.byte-index c.digits.value c.in_ok-digit.digit (omega (arith, low)) c.radix.ensures c.digits-test.true c.digits.invariant.1 c.in_ok-digit.ensures.1
    (omega (arith, c.in_err-checked_mul.ensures)) in
    subst (ReadsDigits (base_number c.args.base) c.args.digits.now) (sym c.from_residual-in_err-checked_mul.ensures) none

pub returns-in_err-value : goal.returns-in_err-value
returns-in_err-value c =
    let low = base_number-low c.args.base in
    let none = too_large (base_number c.args.base) c.radix.result c.args.digits.now c.digits.byte-index c.digits.value c.in_ok-digit.digit (omega (arith, low)) c.radix.ensures c.digits-test.true c.digits.invariant.1 c.in_ok-digit.ensures.1
    (omega (arith, c.in_err-value.ensures, c.in_ok-checked_mul.ensures.1)) in
    subst (ReadsDigits (base_number c.args.base) c.args.digits.now) (sym c.from_residual-in_err-value.ensures) none

pub digits-preserved : goal.digits-preserved
digits-preserved c =
    let low = base_number-low c.args.base in
    one_digit_more (base_number c.args.base) c.radix.result c.args.digits.now c.digits.byte-index c.digits.value c.in_ok-digit.digit (omega (arith, low)) c.radix.ensures c.digits-test.true c.digits.invariant.1 c.in_ok-digit.ensures.1
    c.in_ok-value.value c.digits.invariant.0 c.in_ok-digit.ensures.0 (omega (arith, c.in_ok-value.ensures, c.in_ok-checked_mul.ensures.1)) (omega (arith, c.in_ok-value.ensures.0))
