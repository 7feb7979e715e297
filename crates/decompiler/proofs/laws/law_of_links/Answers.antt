use Rattle.std.proofs.Common.{◌∷◌, []}
use Rattle.claims.specs.LinkExact.{FirstReturnsIn}
use Rattle.decompiler.specs.Functions.{UsedBy}
use Rattle.claims.specs.Turns.{RunsBack}
use Rattle.decompiler.proofs.Counts.{exact-of}
use Rattle.decompiler.proofs.Members.{gain-by-itself, gain-linked}
use Rattle.decompiler.proofs.laws.law_of_links.Goals as goal

pub returns : goal.returns
returns c = record {
  linked = λ file ms main g bytes are in_file. exact-of (RunsBack (UsedBy ms)) file g (gain-linked file ms main g bytes are in_file);
  by_itself = λ file m g bytes are in_file. exact-of (FirstReturnsIn (UsedBy (m ∷ []))) file g (gain-by-itself file m g bytes are in_file);
}
