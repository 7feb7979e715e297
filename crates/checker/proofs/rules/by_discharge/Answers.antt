use Rattle.std.proofs.Common.{Option, sym, subst, IfOk, IsTrue, arith}
use Rattle.std.specs.Prelude.{◌↔◌, IsSomeAnd}
use Rattle.triple_kernel.specs.Rules.{IsDischarged}
use Rattle.triple_kernel.specs.Tree.{TripleTree}
use Rattle.held_terms.specs.Held.{triple_of}
use Rattle.held_terms.specs.Terms.{HasSubterms, theorem_terms}
use Rattle.held_terms.proofs.SubtermLemmas.{held_at}
use Rattle.checker.proofs.rules.by_discharge.Goals as goal

pub returns-in-Some-clause-answer : goal.returns-in-Some-clause-answer
returns-in-Some-clause-answer g c =
    subst (λ (o : Option TripleTree). IfOk c.is_discharged.result (λ r. IsTrue r ↔ IsSomeAnd o (λ p. IsDischarged p (triple_of c.args.arena.now c.args.stated.now)))) c.in-Some.ensures.theorem c.is_discharged.ensures.answer

pub returns-in-Some-clause-steps : goal.returns-in-Some-clause-steps
returns-in-Some-clause-steps g c ts stated cited =
    let ns = c.args.arena.now in
    let one = held_at ts ns c.in-Some.p.now c.in-Some.ensures.there (subst (λ (o : Option TripleTree). HasSubterms ts (theorem_terms o)) (sym c.in-Some.ensures.theorem) cited) in
    let two = held_at ts ns c.args.stated.now c.requires.stated stated in
    c.is_discharged.ensures.steps ts one.facts two.facts

pub returns-in-None-clause-steps : goal.returns-in-None-clause-steps
returns-in-None-clause-steps g c ts stated cited = omega arith
