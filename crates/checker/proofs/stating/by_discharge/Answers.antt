use Rattle.std.proofs.Common.{List, Option, sym, subst, arith}
use Rattle.triple_kernel.specs.Tree.{TripleTree}
use Rattle.held_terms.specs.declared.held.HeldFact.{HeldFact}
use Rattle.held_terms.specs.Subterms.{HasFacts}
use Rattle.held_terms.specs.Terms.{HasSubterms, theorem_terms}
use Rattle.held_terms.proofs.SubtermLemmas.{held_at}
use Rattle.checker.proofs.stating.by_discharge.Goals as goal

pub returns-in-Some-clause-steps : goal.returns-in-Some-clause-steps
returns-in-Some-clause-steps g c = λ ts cited has.
    let one = held_at ts c.args.arena.now c.in-Some.q.now c.in-Some.ensures.fine.there (subst (λ (o : Option TripleTree). HasSubterms ts (theorem_terms o)) (sym c.in-Some.ensures.theorem) cited) in
    c.discharged.ensures.steps ts one.facts (subst (λ (fs : List HeldFact). HasFacts c.args.arena.now fs ts) (sym c.as_slice.ensures) has)

pub returns-in-None-clause-steps : goal.returns-in-None-clause-steps
returns-in-None-clause-steps g c = λ ts cited has. omega arith
