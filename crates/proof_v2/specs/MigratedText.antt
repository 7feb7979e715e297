-- What a text of version 1 becomes in version 2.
use Rattle.std.specs.Prelude.{◌≡◌, ℕ, List}
use Rattle.std.specs.List.{AllZip}
use Rattle.proof_text.specs.Line.{ProofTree}
use Rattle.verdicts.specs.Accepts.{Accepts}
use Rattle.verdicts.specs.Verdicts.{IsTextOf}
use Rattle.short_text.specs.ShortProofs.{AreShortProofs, ShortProof, proof_lines, table_of, text_of_short_proofs}
use Rattle.proof_v2.specs.Migration.{IsMigrated}

-- the same group, with the table and the short lines that its proof becomes
pub record IsMigratedProof (p : ProofTree) (q : ShortProof) : Type 0 where
  pub group : q.group ≡ p.group
  pub proof : IsMigrated p (table_of q.lines) (proof_lines q.lines)

-- the text of version 1 is accepted for the file, and its groups, one after the other, are those of the text of version 2
pub record IsMigratedText (file text more : List ℕ) : Type 0 where
  pub old : List ProofTree
  pub spelled : IsTextOf text old
  pub accepted : Accepts file old
  pub new : List ShortProof
  pub migrated : AllZip IsMigratedProof old new
  pub fit : AreShortProofs new
  pub is : more ≡ text_of_short_proofs new
