use Rattle.std.proofs.Common.{◌≡◌, ◌+◌, ◌≤◌, false}
use Rattle.tailrec_lang.specs.Tree.{group_tree}
use Rattle.group_text.specs.Version.{version_of}
use Rattle.verdicts.specs.inner.Checking.{LinesSoFar, StandBehind}
use Rattle.verdicts.proofs.check.judge_lines.Given as goal

abbrev pub invariant-loop-counts : goal.invariant-loop-counts
invariant-loop-counts g l = record {
  judged : LinesSoFar (g.V.RuledLines.rules l.version) (group_tree l.group) (g.B.JudgeLines.history l.bench)
      (StandBehind g.V.RuledLines.readers.grammar (version_of (g.P.ProofSource.version l.source)) (g.V.RuledLines.Behind l.kept.lines) (g.B.JudgeLines.GoesWith l.bench l.kept.lines))
      (g.P.ProofSource.told l.fn.source l.fn.from) (g.P.ProofSource.told l.source l.from) l.lines;
  going : g.P.ProofSource.Goes l.source;
  same : g.B.JudgeLines.group l.bench ≡ group_tree l.group;
  few : l.lines + g.P.ProofSource.left l.source ≤ g.P.ProofSource.left l.fn.source;
  version : g.P.ProofSource.version l.source ≡ g.P.ProofSource.version l.fn.source;
  lends : g.P.ProofSource.Lends false l.fn.source l.fn.from l.source l.from;
}

abbrev pub decreases-loop-counts : goal.decreases-loop-counts
decreases-loop-counts g l = g.P.ProofSource.left l.source
