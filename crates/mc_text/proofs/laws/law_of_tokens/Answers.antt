use Rattle.mc_text.proofs.OneSpelling.{stands-once}
use Rattle.mc_text.proofs.laws.law_of_tokens.Goals as goal

pub returns : goal.returns
returns c = stands-once
