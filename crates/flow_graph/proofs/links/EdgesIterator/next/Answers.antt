use Rattle.std.proofs.Common.{◌∷◌, length, ◌∙◌, ap, arith}
use Rattle.flow_graph.specs.inner.Linked.{follow, next_of, end_of, edge_at}
use Rattle.flow_graph.proofs.LinkedLemmas.{step_of}
use Rattle.flow_graph.proofs.links.EdgesIterator.next.Goals as goal

pub returns-in-Out-clause-steps : goal.returns-in-Out-clause-steps
returns-in-Out-clause-steps c =
    let s = step_of c.self.inside.side c.self.inside.edges.now c.self.inside.at c.in_ok-at.at c.args.self.now c.in_ok-at.was c.self.invariant.0 c.self.invariant.1 c.self.view_is in
    s ∙ ap (λ z. end_of z (edge_at c.self.inside.edges.now c.in_ok-at.at) ∷ follow c.self.inside.side c.self.inside.edges.now (length c.self.inside.edges.now) (next_of z (edge_at c.self.inside.edges.now c.in_ok-at.at))) c.in-Out.is

pub returns-in-Out-clause-goes : goal.returns-in-Out-clause-goes
returns-in-Out-clause-goes c = let s = ap length (returns-in-Out-clause-steps c) in record { on = λ f. (tt, tt, omega (arith, s)); keeps = tt; rests = λ f. tt }

pub returns-in-In-clause-steps : goal.returns-in-In-clause-steps
returns-in-In-clause-steps c =
    let s = step_of c.self.inside.side c.self.inside.edges.now c.self.inside.at c.in_ok-at.at c.args.self.now c.in_ok-at.was c.self.invariant.0 c.self.invariant.1 c.self.view_is in
    s ∙ ap (λ z. end_of z (edge_at c.self.inside.edges.now c.in_ok-at.at) ∷ follow c.self.inside.side c.self.inside.edges.now (length c.self.inside.edges.now) (next_of z (edge_at c.self.inside.edges.now c.in_ok-at.at))) c.in-In.is

pub returns-in-In-clause-goes : goal.returns-in-In-clause-goes
returns-in-In-clause-goes c = let s = ap length (returns-in-In-clause-steps c) in record { on = λ f. (tt, tt, omega (arith, s)); keeps = tt; rests = λ f. tt }
