use Rattle.tailrec_lang.specs.Tree.{group_tree}
use Rattle.group_text.specs.Version.{version_of}
use Rattle.checker.proofs.StandingLemmas.{stands_new}
use Rattle.checker.proofs.short_judge.OverTablesJudgeProofsByTable.judge_proof.Goals as goal

pub judge_group-requires-clause-bench : goal.judge_group-requires-clause-bench
judge_group-requires-clause-bench g c =
    let b = c.in-Ok.bench in
    let k = c.in-Ok.ensures in
    stands_new b.bench b.terms c.args.kept.now.lines.lines (version_of (g.P.ProofSource.version c.args.source.now)) (group_tree c.args.group.now) c.requires.group k.group k.none k.empty k.terms c.requires.kept
