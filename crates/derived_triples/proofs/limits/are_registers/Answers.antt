use Rattle.group_text.specs.TermLimits.{IsWord}
use Rattle.held_terms.specs.Held.{register_of}
use Rattle.derived_triples.proofs.LimitLemmas.{not_each}
use Rattle.derived_triples.proofs.limits.are_registers.Goals as goal

pub returns-then-not-is_word : goal.returns-then-not-is_word
returns-then-not-is_word c =
    let ns = c.args.arena.now in
    not_each (λ r. IsWord r.1) (register_of ns) c.args.registers.now c.loop-register.register-index _ c.loop-register-test.true (c.if-not-is_word.true) c.is_word.ensures.1
