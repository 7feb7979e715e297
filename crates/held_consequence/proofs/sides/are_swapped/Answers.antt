use Rattle.std.proofs.Common.{List, subst}
use Rattle.held_terms.specs.Subterms.{HasSides}
use Rattle.held_consequence.specs.inner.Table.{Entry, Went}
use Rattle.held_consequence.proofs.TableLemmas.{few_steps}
use Rattle.held_consequence.proofs.sides.are_swapped.Goals as goal

pub returns-clause-steps : goal.returns-clause-steps
returns-clause-steps g c ts has =
    few_steps c.args.arena.now (HasSides c.args.arena.now c.args.a.now c.args.b.now) ts c.swap_side.new.known c.args.steps.now c.swap_side.new.steps c.law_of_nodes.ensures has
    (subst (λ (old : List Entry). Went c.args.arena.now (HasSides c.args.arena.now c.args.a.now c.args.b.now) old c.swap_side.new.known c.args.steps.now c.swap_side.new.steps) c.new-known.ensures c.swap_side.ensures.went)

pub returns-in_err-v-clause-steps : goal.returns-in_err-v-clause-steps
returns-in_err-v-clause-steps g c ts has =
    few_steps c.args.arena.now (HasSides c.args.arena.now c.args.a.now c.args.b.now) ts c.swap_side.new.known c.args.steps.now c.swap_side.new.steps c.law_of_nodes.ensures has
    (subst (λ (old : List Entry). Went c.args.arena.now (HasSides c.args.arena.now c.args.a.now c.args.b.now) old c.swap_side.new.known c.args.steps.now c.swap_side.new.steps) c.new-known.ensures c.swap_side.ensures.went)
