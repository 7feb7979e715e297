use Rattle.std.proofs.Common.{sym, subst}
use Rattle.held_consequence.specs.declared.classes.Parts.{Parts}
use Rattle.held_consequence.specs.inner.Classes.{ArePartsAt}
use Rattle.held_consequence.proofs.ClassLemmas.{parts_fit}
use Rattle.held_consequence.proofs.classes.read_parts.Goals as goal

pub returns-clause-parts : goal.returns-clause-parts
returns-clause-parts g c =
    subst (λ (p : Parts). ArePartsAt c.args.arena.now c.args.x p) (sym c.parts_of.ensures) (parts_fit c.args.arena.now c.args.x c.node-n.result c.node-n.ensures.tree c.node-n.ensures.children c.node-n.ensures.below)
