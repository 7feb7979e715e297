use Rattle.code_parts.proofs.FlowGraph.{is-graph}
use Rattle.code_parts.proofs.FlowCode.{is-code}
use Rattle.code_parts.proofs.laws.law_of_contexts.Goals as goal

pub returns : goal.returns
returns c = record { graph = is-graph; code = is-code }
