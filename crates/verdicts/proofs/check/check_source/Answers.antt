use Rattle.std.proofs.Common.{sym, subst}
use Rattle.group_text.specs.Version.{version_of}
use Rattle.verdicts.specs.declared.verdict.Verdict.{Verdict}
use Rattle.verdicts.specs.Verdicts.{SaysOver}
use Rattle.verdicts.proofs.JudgedLemmas.{text-verdict}
use Rattle.verdicts.proofs.Told.{some-so}
use Rattle.verdicts.proofs.check.check_source.Goals as goal

pub returns-in-Ok-clause-verdict : goal.returns-in-Ok-clause-verdict
returns-in-Ok-clause-verdict g c elf readable is =
    some-so (g.P.ProofSource.told c.args.source.now c.args.from.now) _ _
    (λ r judged. subst (λ (v : Verdict). SaysOver (g.V.RuledLines.rules c.args.version) (version_of r.version) elf r.text v) (sym c.conclude.ensures) (text-verdict (g.V.RuledLines.rules c.args.version) (version_of r.version) elf r.text readable c.in-Ok.tally judged))
    (c.in-Ok.ensures.judged elf is)
