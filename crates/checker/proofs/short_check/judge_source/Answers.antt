use Rattle.group_text.specs.Version.{version_of}
use Rattle.checker.proofs.short_check.judge_source.Goals as goal

pub check_source-requires-clause-laws : goal.check_source-requires-clause-laws
check_source-requires-clause-laws g c = c.law_of_short_lines.ensures.read (version_of (g.P.ProofSource.version c.args.source.now))
