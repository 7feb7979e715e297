use Rattle.std.proofs.Common.{ℕ, ◌+◌, ◌*◌, min, ap, ◌∙◌}
use Rattle.smt_terms.proofs.ReadNumerals.{small_more}
use Rattle.smt_terms.proofs.numeral.small_numeral.Goals as goal

pub loop-byte-preserved : goal.loop-byte-preserved
loop-byte-preserved c =
    small_more _ _ _ _ c.in-Some.digit _ _ c.loop-byte-test.true c.digit.ensures c.in-Some.is
    (c.min-number.ensures ∙ ap (λ (d : ℕ). min (c.loop-byte.number * 10 + d) 129) c.from.ensures) c.loop-byte.invariant
