use Rattle.flow_graph.proofs.ExactLemmas.{graph_or_fault, one_fault}
use Rattle.flow_graph.proofs.GraphLaws.{one_graph}
use Rattle.flow_graph.proofs.laws.law_of_one_answer.Goals as goal

pub returns : goal.returns
returns c = record { graph_or_fault = graph_or_fault; one_fault = one_fault; one_graph = one_graph }
