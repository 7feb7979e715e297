use Rattle.std.proofs.Common.{◌+◌, ◌*◌, slice_index, refl, arith}
use Rattle.mc_text.proofs.DigitValues.{one_digit_more, parted}
use Rattle.mc_text.proofs.number.small_digits.Goals as goal

pub digits-preserved : goal.digits-preserved
digits-preserved c =
    let low = (parted 10 (slice_index c.args.bytes.now c.digits.i) c.in-Some.ensures.0).0 in
    let more = one_digit_more 10 10 c.args.bytes.now c.digits.i c.digits.value c.in-Some.digit (omega arith) refl c.digits-test.true c.digits.invariant.1 c.in-Some.ensures.1 (c.digits.value * 10 + c.in-Some.digit)
    c.digits.invariant.0 c.in-Some.ensures.0 refl (omega (arith, low, c.in-Some.ensures.1, c.if-value-lt400000000.true)) in
    (more.0, more.1, omega (arith, low, c.in-Some.ensures.1, c.if-value-lt400000000.true))
