use Rattle.std.proofs.Common.{false}
use Rattle.code_parts.specs.Flows.{alone}
use Rattle.code_parts.proofs.FlowEntry.{lists-entry}
use Rattle.code_parts.proofs.laws.law_of_entries.Goals as goal

pub returns : goal.returns
returns c = λ code e g f parts name ranges graph forest order. lists-entry false code e g f (alone g parts) graph forest order name ranges
