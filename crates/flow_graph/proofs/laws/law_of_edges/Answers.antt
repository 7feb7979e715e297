use Rattle.std.proofs.Common.{sym}
use Rattle.flow_graph.proofs.FlowLemmas.{is_flow}
use Rattle.flow_graph.proofs.GraphLaws.{both_lists, successors_are}
use Rattle.flow_graph.proofs.laws.law_of_edges.Goals as goal

pub returns : goal.returns
returns c = record {
  successors = successors_are;
  both_lists = λ g. both_lists g.edges;
  instructions = λ linked code e g r. sym r.instrs;
  flow = is_flow;
}
