use Rattle.std.proofs.Common.{◌≡◌, Option, Some, sym, ap, ◌∙◌, subst, arith}
use Rattle.std.specs.Prelude.{option_map}
use Rattle.std.proofs.lemmas.Option.{same_Some}
use Rattle.instr_axioms.specs.Axiom.{axiom_of}
use Rattle.triple_kernel.specs.Tree.{TripleTree, triple_tree}
use Rattle.held_terms.specs.Held.{triple_of}
use Rattle.proof_text.specs.inner.OwnCode.{IsOwnCode}
use Rattle.derived_triples.proofs.ComputedLemmas.{axiom_code, made_one}
use Rattle.held_terms.specs.Terms.{HasSubterms, theorem_terms}
use Rattle.derived_triples.proofs.AxiomSteps.{axiom_within}
use Rattle.derived_triples.proofs.computed.axiom.Goals as goal

pub if_within-requires-clause-code : goal.if_within-requires-clause-code
if_within-requires-clause-code g c =
    let t = triple_tree c.in-Some.t in
    let e = sym c.in_ok-found.ensures ∙ ap (option_map triple_tree) c.in-Some.is in
    subst IsOwnCode (sym (ap (λ (x : TripleTree). x.code) c.in_ok-h.ensures.put.is)) (axiom_code c.args.addr c.args.word c.args.form t e)

pub returns-clause-made : goal.returns-clause-made
returns-clause-made g c =
    let new = c.put_triple.new.arena in
    let u = triple_of new c.in_ok-h.h in
    let e : axiom_of c.args.addr c.args.word c.args.form ≡ Some u = sym c.in_ok-found.ensures ∙ ap (option_map triple_tree) c.in-Some.is ∙ ap Some (sym c.in_ok-h.ensures.put.is) in
    made_one new (λ x. axiom_of c.args.addr c.args.word c.args.form ≡ Some x) u e (λ x p. same_Some x u (sym p ∙ e)) c.if_within.result c.if_within.ensures

pub returns-in_err-h-clause-steps : goal.returns-in_err-h-clause-steps
returns-in_err-h-clause-steps g c = λ ts has.
    let t = triple_tree c.in-Some.t in
    let e = sym c.in_ok-found.ensures ∙ ap (option_map triple_tree) c.in-Some.is in
    let le = c.put_triple.ensures.steps in
    let enough = axiom_within ts c.args.addr c.args.word c.args.form t e (subst (λ (o : Option TripleTree). HasSubterms ts (theorem_terms o)) e has) in
    omega (arith, le, enough)

pub returns-clause-steps : goal.returns-clause-steps
returns-clause-steps g c = λ ts has.
    let t = triple_tree c.in-Some.t in
    let e = sym c.in_ok-found.ensures ∙ ap (option_map triple_tree) c.in-Some.is in
    let le = c.put_triple.ensures.steps in
    let enough = axiom_within ts c.args.addr c.args.word c.args.form t e (subst (λ (o : Option TripleTree). HasSubterms ts (theorem_terms o)) e has) in
    omega (arith, le, enough)

pub returns-in_err-found-clause-steps : goal.returns-in_err-found-clause-steps
returns-in_err-found-clause-steps g c = λ ts has. omega arith

pub returns-in_default-clause-steps : goal.returns-in_default-clause-steps
returns-in_default-clause-steps g c = λ ts has. omega arith
