use Rattle.std.proofs.Common.{subst, sym}
use Rattle.held_terms.specs.declared.held.Held.{Held}
use Rattle.held_definitions.specs.inner.Marks.{HasWithin}
use Rattle.checker.specs.Bench.{state_group}
use Rattle.checker.proofs.bench.Bench.keep_given.Goals as goal

pub keep-requires-2-clause-within : goal.keep-requires-2-clause-within
keep-requires-2-clause-within c = λ is. subst (λ (h : Held). HasWithin (state_group c.args.self.now).code h) (sym c.in_ok-shared.ensures) (c.lies_within-within.ensures is)
