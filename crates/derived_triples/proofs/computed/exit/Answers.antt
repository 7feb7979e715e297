use Rattle.std.proofs.Common.{Option, Some, sym, ap, subst}
use Rattle.tailrec_lang.specs.Tree.{group_tree}
use Rattle.triple_kernel.specs.Tree.{TripleTree}
use Rattle.loop_rule.specs.Rule.{IsExit}
use Rattle.held_terms.specs.declared.held.Held.{Held}
use Rattle.held_terms.specs.Held.{triple_of}
use Rattle.proof_text.specs.inner.OwnCode.{IsOwnCode}
use Rattle.held_definitions.specs.inner.Exits.{IsExitPut}
use Rattle.derived_triples.proofs.ComputedLemmas.{made_one}
use Rattle.derived_triples.proofs.ShortLemmas.{one_exit}
use Rattle.derived_triples.proofs.computed.exit.Goals as goal

pub if_within-requires-clause-code : goal.if_within-requires-clause-code
if_within-requires-clause-code g c =
    let new = c.exit_held.new.arena in
    let put = subst (λ (o : Option Held). IsExitPut new (group_tree c.args.g.now) c.args.def c.args.number o) c.in-Some.is c.in_ok-found.ensures.put in
    subst IsOwnCode (sym (ap (λ (x : TripleTree). x.code) put.1.same)) c.requires.code

pub returns-clause-made : goal.returns-clause-made
returns-clause-made g c =
    let new = c.exit_held.new.arena in
    let tree = group_tree c.args.g.now in
    let u = triple_of new c.in-Some.h in
    let put : IsExitPut new tree c.args.def c.args.number (Some c.in-Some.h) = subst (λ (o : Option Held). IsExitPut new tree c.args.def c.args.number o) c.in-Some.is c.in_ok-found.ensures.put in
    made_one new (λ t. IsExit tree c.args.def c.args.number t) u put.1 (λ t x. one_exit tree c.args.def c.args.number t u x put.1) c.if_within.result c.if_within.ensures

pub returns-in_default-clause-made : goal.returns-in_default-clause-made
returns-in_default-clause-made g c =
    let tree = group_tree c.args.g.now in
    let none : (t : TripleTree) → IsExit tree c.args.def c.args.number t → ⊥ = subst (λ (o : Option Held). IsExitPut c.exit_held.new.arena tree c.args.def c.args.number o) c.in_default.is c.in_ok-found.ensures.put in
    λ t fits e. none t e

pub returns-in_err-found-clause-steps : goal.returns-in_err-found-clause-steps
returns-in_err-found-clause-steps g c = c.exit_held.ensures.steps

pub returns-in_default-clause-steps : goal.returns-in_default-clause-steps
returns-in_default-clause-steps g c = c.exit_held.ensures.steps

pub returns-clause-steps : goal.returns-clause-steps
returns-clause-steps g c = c.exit_held.ensures.steps
