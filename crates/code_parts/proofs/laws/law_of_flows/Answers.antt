use Rattle.std.proofs.Common.{false}
use Rattle.code_parts.specs.Flows.{alone}
use Rattle.code_parts.proofs.FlowCode.{is-code}
use Rattle.code_parts.proofs.FlowGraph.{is-graph}
use Rattle.code_parts.proofs.FlowMade.{none-called, set-alone}
use Rattle.code_parts.proofs.FlowSize.{small-alone}
use Rattle.code_parts.proofs.laws.law_of_flows.Goals as goal

pub returns : goal.returns
returns c = record {
  graph = λ code e g f parts. is-graph false code e g f (alone g parts);
  code = λ code e g f parts ranges graph forest bytes have. is-code false code e g f (alone g parts) ranges graph forest bytes have (set-alone g parts);
  small = small-alone;
  calls = none-called;
}
