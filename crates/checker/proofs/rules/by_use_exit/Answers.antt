use Rattle.held_terms.proofs.SubtermLemmas.{held_at}
use Rattle.checker.proofs.rules.by_use_exit.Goals as goal

pub returns-then-is_closed-clause-steps : goal.returns-then-is_closed-clause-steps
returns-then-is_closed-clause-steps g c ts stated = c.is_exit.ensures.steps ts (held_at ts c.args.arena.now c.args.stated.now c.requires.stated stated)
