use Rattle.verdicts.specs.Instance.{no_lines}
use Rattle.proof_v2.proofs.AcceptedTexts.{proof-proved}
use Rattle.proof_v2.proofs.Migrated.{as-many}
use Rattle.proof_v2.proofs.laws.law_of_migration.Goals as goal

pub returns-clause-accepted : goal.returns-clause-accepted
returns-clause-accepted c file p q m fit = proof-proved p q m fit file

pub returns-clause-lines : goal.returns-clause-lines
returns-clause-lines c p ns ss m = as-many p.group no_lines ns ss p.lines m.lines
