use Rattle.std.proofs.Common.{subst}
use Rattle.term_arena.proofs.TreeLemmas.{number_within}
use Rattle.held_terms.specs.Held.{IsFactAt}
use Rattle.held_terms.specs.declared.held.HeldFact.{HeldFact}
use Rattle.held_consequence.proofs.candidates.see.Goals as goal

pub class_of-requires-clause-there : goal.class_of-requires-clause-there
class_of-requires-clause-there g c =
    number_within c.args.arena.now c.in-So.c _ (subst (λ (f : HeldFact). IsFactAt c.args.arena.now f) c.in-So.is c.requires.fact)
