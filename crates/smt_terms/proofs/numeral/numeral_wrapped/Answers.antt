use Rattle.std.proofs.Common.{ℕ, ◌+◌, ◌*◌, ◌%◌, ◌^◌, ap}
use Rattle.smt_terms.proofs.ReadNumerals.{wrapped_more}
use Rattle.smt_terms.proofs.numeral.numeral_wrapped.Goals as goal

pub loop-byte-preserved : goal.loop-byte-preserved
loop-byte-preserved c =
    wrapped_more _ _ _ _ c.in-Some.digit _ _ c.loop-byte-test.true c.digit.ensures c.in-Some.is
    (ap (λ (d : ℕ). (c.loop-byte.number * 10 % 2 ^ 128 + d) % 2 ^ 128) c.from.ensures) c.loop-byte.invariant
