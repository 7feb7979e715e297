use Rattle.flow_graph.proofs.ExactLemmas.{graph_numbers}
use Rattle.flow_graph.proofs.InstructionLemmas.{graph_stands, through_return}
use Rattle.flow_graph.proofs.laws.law_of_instructions.Goals as goal

pub returns : goal.returns
returns c = record { stands = graph_stands; number = graph_numbers; returns = through_return }
