use Rattle.proof_v2.proofs.Fits.{line_fits}
use Rattle.proof_v2.proofs.laws.law_of_fine_lines.Goals as goal

pub returns : goal.returns
returns c ns line few fine = line_fits ns few line fine
