use Rattle.std.proofs.Common.{Option, sym, subst, arith}
use Rattle.triple_kernel.specs.Tree.{TripleTree}
use Rattle.held_terms.specs.Terms.{HasSubterms, theorem_terms}
use Rattle.checker.proofs.rules.by_inst.Goals as goal

pub returns-in-Some-clause-steps : goal.returns-in-Some-clause-steps
returns-in-Some-clause-steps g c ts cited =
    c.is_instance_by.ensures.steps ts (subst (λ (o : Option TripleTree). HasSubterms ts (theorem_terms o)) (sym c.in-Some.ensures.theorem) cited)

pub returns-in-None-clause-steps : goal.returns-in-None-clause-steps
returns-in-None-clause-steps g c ts cited = omega arith
