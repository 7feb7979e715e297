use Rattle.std.proofs.Common.{false}
use Rattle.code_parts.specs.Flows.{alone}
use Rattle.code_parts.proofs.FlowMade.{is-made}
use Rattle.code_parts.proofs.FlowOne.{one-order}
use Rattle.code_parts.proofs.laws.law_of_orders.Goals as goal

pub returns : goal.returns
returns c = record { made = is-made; one_order = λ code e g f parts others. one-order false code e g f (alone g parts) (alone g others) }
