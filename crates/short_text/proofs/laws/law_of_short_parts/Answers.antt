use Rattle.group_text.specs.Version.{version_2}
use Rattle.proof_text.proofs.ProofParts.{proof-text-apart}
use Rattle.short_text.specs.ShortProofs.{short_lines}
use Rattle.short_text.proofs.ReadLaws.{whole-line}
use Rattle.short_text.proofs.laws.law_of_short_parts.Goals as goal

pub returns : goal.returns
returns c = proof-text-apart short_lines version_2 whole-line
