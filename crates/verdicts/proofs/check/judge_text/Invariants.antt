use Rattle.std.proofs.Common.{◌≡◌, ◌+◌, ◌≤◌, false}
use Rattle.proof_text.specs.Sources.{Both}
use Rattle.verdicts.proofs.JudgedLemmas.{Groups}
use Rattle.verdicts.proofs.check.judge_text.Given as goal

abbrev pub invariant-loop-group : goal.invariant-loop-group
invariant-loop-group g l = record {
  told : Both (g.P.ProofSource.told l.fn.source l.fn.from) (g.P.ProofSource.told l.source l.from) (Groups (g.V.RuledLines.rules l.version) l.code.ranges l.tally);
  going : g.P.ProofSource.Goes l.source;
  few : l.tally.groups + l.tally.lines + g.P.ProofSource.left l.source ≤ g.P.ProofSource.left l.fn.source;
  version : g.P.ProofSource.version l.source ≡ g.P.ProofSource.version l.fn.source;
  lends : g.P.ProofSource.Lends false l.fn.source l.fn.from l.source l.from;
}

abbrev pub decreases-loop-group : goal.decreases-loop-group
decreases-loop-group g l = g.P.ProofSource.left l.source
