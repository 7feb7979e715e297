use Rattle.derived_triples.proofs.LimitLemmas.{false_true, same_numbers}
use Rattle.derived_triples.proofs.limits.are_rising.Goals as goal

pub returns-then-registers_rise : goal.returns-then-registers_rise
returns-then-registers_rise c =
    let same = same_numbers c.args.arena.now c.args.registers.now in
    let rise = same.0 (c.registers_rise.ensures.0 c.if-registers_rise.true) in
    (λ e. (rise, c.are_registers.ensures.0 e), λ p. c.are_registers.ensures.1 p.1)

pub returns-else-registers_rise : goal.returns-else-registers_rise
returns-else-registers_rise c =
    let same = same_numbers c.args.arena.now c.args.registers.now in
    (λ e. absurd (false_true c.if-registers_rise.false e), λ p. c.registers_rise.ensures.1 (same.1 p.0))
