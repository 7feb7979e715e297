use Rattle.std.proofs.Common.{List, ℕ, get_or, sym, ap, ◌∙◌}
use Rattle.flow_graph.specs.Graph.{succs_of}
use Rattle.triple_kernel.specs.declared.form.Form.{Form}
use Rattle.code_parts.specs.Flows.{edge_number}
use Rattle.code_parts.specs.Kept.{FlowOf}
use Rattle.code_parts.proofs.Contexts.{edge_within, second_is}
use Rattle.code_parts.proofs.flow.Flow.to.Goals as goal

pub returns-in-Next-clause-node : goal.returns-in-Next-clause-node
returns-in-Next-clause-node c has =
    let ends = c.succs-ends.ensures ∙ ap (λ (z : FlowOf). succs_of z.graph.edges c.args.n) c.self.view_is in
    edge_within _ _ _ _ _ c.self.invariant _ c.self.view_is c.args.n c.args.form c.next_end.result c.requires.node
    (c.next_end.ensures.first ∙ ap (λ (xs : List ℕ). get_or xs 0 0) ends ∙ ap (λ (form : Form). get_or (succs_of c.args.self.now.graph.edges c.args.n) (edge_number form) 0) (sym c.in-Next.is)) has

pub returns-in-Taken-clause-node : goal.returns-in-Taken-clause-node
returns-in-Taken-clause-node c has =
    let ends = c.succs-ends.ensures ∙ ap (λ (z : FlowOf). succs_of z.graph.edges c.args.n) c.self.view_is in
    edge_within _ _ _ _ _ c.self.invariant _ c.self.view_is c.args.n c.args.form c.next_end-in-Taken-2.result c.requires.node
    (c.next_end-in-Taken-2.ensures.first ∙ ap (λ (xs : List ℕ). get_or xs 0 0) c.next_end-in-Taken.ensures.rest ∙ second_is c.succs-ends.result ∙ ap (λ (xs : List ℕ). get_or xs 1 0) ends
    ∙ ap (λ (form : Form). get_or (succs_of c.args.self.now.graph.edges c.args.n) (edge_number form) 0) (sym c.in-Taken.is)) has
