use Rattle.std.proofs.Common.{subst, ◌∙◌}
use Rattle.group_text.specs.declared.version.Version.{Version as Known}
use Rattle.group_text.specs.Version.{version_of}
use Rattle.proof_text.proofs.WholeLaws.{lines-read}
use Rattle.verdicts.specs.Further.{further_of}
use Rattle.verdicts.specs.Pulled.{as_verdict}
use Rattle.verdicts.specs.Verdicts.{SaysBy}
use Rattle.verdicts.proofs.Told.{some-two}
use Rattle.checker.proofs.check.judge_source.Goals as goal

pub check_source-requires-clause-laws : goal.check_source-requires-clause-laws
check_source-requires-clause-laws g c = lines-read (g.P.ProofSource.version c.args.source.now)

pub returns-clause-verdict : goal.returns-clause-verdict
returns-clause-verdict g c elf readable is =
    let v = as_verdict c.check_source.result in
    some-two (g.P.ProofSource.told c.args.source.now c.args.from.now) _ _ _
    (λ r says of. subst (λ (k : Known). SaysBy (further_of c.args.version) (version_of k) elf r.text v) (of ∙ c.requires.version) says)
    (c.check_source.ensures.verdict elf readable is) (g.met.P.ProofSource.told_version c.args.source.now c.args.from.now)
