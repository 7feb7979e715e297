use Rattle.std.proofs.Common.{Option, sym, subst, arith}
use Rattle.triple_kernel.specs.Tree.{TripleTree}
use Rattle.held_terms.specs.Terms.{HasSubterms, theorem_terms}
use Rattle.held_terms.proofs.SubtermLemmas.{held_at}
use Rattle.checker.proofs.stating.by_weaken.Goals as goal

pub returns-in-Some-clause-steps : goal.returns-in-Some-clause-steps
returns-in-Some-clause-steps g c = λ ts cited has.
    let one = held_at ts c.args.arena.now c.in-Some.q.now c.in-Some.ensures.fine.there (subst (λ (o : Option TripleTree). HasSubterms ts (theorem_terms o)) (sym c.in-Some.ensures.theorem) cited) in
    c.weakened.ensures.steps ts (one.post, has)

pub returns-in-None-clause-steps : goal.returns-in-None-clause-steps
returns-in-None-clause-steps g c = λ ts cited has. omega arith
