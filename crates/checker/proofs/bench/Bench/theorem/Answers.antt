use Rattle.std.proofs.Common.{◌+◌, ◌≤◌, Option, Some, ap, sym, ◌∙◌, subst}
use Rattle.triple_kernel.specs.Tree.{TripleTree, triple_tree}
use Rattle.triple_kernel.specs.Valid.{Valid}
use Rattle.held_terms.specs.Held.{triple_of}
use Rattle.held_terms.specs.Terms.{nodes_of, theorem_terms, triple_terms}
use Rattle.checker.specs.Bench.{BenchState, state_group, state_nodes}
use Rattle.checker.proofs.bench.Bench.theorem.Goals as goal

pub from_valid-requires : goal.from_valid-requires
from_valid-requires g c =
    let h = c.in-Some.h.now in
    let is = c.in_ok-triple-in-Some.ensures.triple ∙ ap (λ (k : BenchState). triple_of (state_nodes k) h) c.self.view_is in
    let valid = c.law_of_bench.ensures.sound.theorems c.args.k (triple_of (state_nodes c.args.self.now) h) (sym c.in-Some.ensures.theorem) in
    subst (λ (k : BenchState). Valid (state_group k) (triple_tree c.in_ok-triple-in-Some.triple)) (sym c.self.view_is) (subst (Valid (state_group c.args.self.now)) (sym is) valid)

pub returns-in_ok-triple-in-Some-clause-theorem : goal.returns-in_ok-triple-in-Some-clause-theorem
returns-in_ok-triple-in-Some-clause-theorem g c =
    let is = c.in_ok-triple-in-Some.ensures.triple ∙ ap (λ (k : BenchState). triple_of (state_nodes k) c.in-Some.h.now) c.self.view_is in
    (λ i. Some (triple_tree (c.from_valid.ensures i).1)) ∙ ap (λ (t : TripleTree). Some t) is ∙ c.in-Some.ensures.theorem

pub returns-in_ok-triple-in-Some-clause-steps : goal.returns-in_ok-triple-in-Some-clause-steps
returns-in_ok-triple-in-Some-clause-steps g c =
    subst (λ (o : Option TripleTree). c.triple_from.new.steps ≤ c.args.steps.now + nodes_of (theorem_terms o)) c.in-Some.ensures.theorem
    (subst (λ (k : BenchState). c.triple_from.new.steps ≤ c.args.steps.now + nodes_of (triple_terms (triple_of (state_nodes k) c.in-Some.h.now))) c.self.view_is c.in_ok-triple-in-Some.ensures.steps)
