use Rattle.std.proofs.Common.{◌∷◌, []}
use Rattle.claims.specs.Exact.{FirstReturns}
use Rattle.claims.specs.LinkExact.{FirstReturnsIn}
use Rattle.code_parts.specs.Flows.{alone, flow_of, group_of}
use Rattle.decompiler.specs.Functions.{UsedBy}
use Rattle.claims.specs.Turns.{RunsBack}
use Rattle.decompiler.proofs.Counts.{counts-of}
use Rattle.decompiler.proofs.GroupOfParts.{flow-gains}
use Rattle.decompiler.proofs.Members.{gain-by-itself, gain-linked}
use Rattle.decompiler.proofs.laws.law_of_counted_steps.Goals as goal

pub returns : goal.returns
returns c = record {
  function = λ file e g f parts name ranges graph forest bytes have order within.
      counts-of FirstReturns file (group_of (flow_of g f (alone g parts)) name ranges parts) (flow-gains file e g f parts name ranges graph forest bytes have order within);
  linked = λ file ms main g bytes are in_file. counts-of (RunsBack (UsedBy ms)) file g (gain-linked file ms main g bytes are in_file);
  by_itself = λ file m g bytes are in_file. counts-of (FirstReturnsIn (UsedBy (m ∷ []))) file g (gain-by-itself file m g bytes are in_file);
}
