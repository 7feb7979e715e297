use Rattle.std.proofs.Common.{Option, sym, subst}
use Rattle.held_terms.specs.declared.held.Held.{Held}
use Rattle.held_definitions.specs.Theorems.{held_by_number}
use Rattle.held_definitions.specs.inner.Marks.{HaveSameCode}
use Rattle.checker.proofs.stating.by_compose.Goals as goal

pub composed_with-requires-clause-known : goal.composed_with-requires-clause-known
composed_with-requires-clause-known c = λ known.
    subst (λ (o : Option Held). HaveSameCode o (held_by_number c.args.held.now.entries c.args.q)) (sym c.in-Some.ensures.held) (c.are_known-known.ensures known)
