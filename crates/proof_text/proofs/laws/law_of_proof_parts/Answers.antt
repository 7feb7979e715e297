use Rattle.group_text.specs.Version.{version_1}
use Rattle.proof_text.specs.LineGrammar.{whole_lines}
use Rattle.proof_text.proofs.ProofParts.{proof-text-apart, whole-line}
use Rattle.proof_text.proofs.laws.law_of_proof_parts.Goals as goal

pub returns : goal.returns
returns c = proof-text-apart whole_lines version_1 (whole-line version_1)
