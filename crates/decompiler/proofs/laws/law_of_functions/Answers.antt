use Rattle.claims.specs.Exact.{FirstReturns}
use Rattle.code_parts.specs.Flows.{alone, flow_of, group_of}
use Rattle.decompiler.proofs.Counts.{exact-of}
use Rattle.decompiler.proofs.GroupOfParts.{flow-gains}
use Rattle.decompiler.proofs.laws.law_of_functions.Goals as goal

pub returns : goal.returns
returns c file e g f parts name ranges graph forest bytes have order within =
    exact-of FirstReturns file (group_of (flow_of g f (alone g parts)) name ranges parts) (flow-gains file e g f parts name ranges graph forest bytes have order within)
