use Rattle.std.proofs.Common.{Bool}
use Rattle.tailrec_lang.specs.Tree.{group_tree}
use Rattle.verdicts.specs.inner.Checking.{ProofJudged}
use Rattle.verdicts.proofs.JudgedLemmas.{group-judged}
use Rattle.verdicts.proofs.SourceLemmas.{outside-exit, verdicts-exit}
use Rattle.verdicts.proofs.check.judge_group.Goals as goal

pub returns-in_err-lines-clause-judged : goal.returns-in_err-lines-clause-judged
returns-in_err-lines-clause-judged g c =
    verdicts-exit (λ r. ProofJudged (g.V.RuledLines.rules c.args.version) (group_tree c.args.group.now) c.args.code.now.ranges (g.P.ProofSource.told c.args.source.now c.args.from.now) (g.P.ProofSource.told c.judge_lines.new.source c.judge_lines.new.from) r)
    c.from_residual.result c.in_err-lines.field-0.0 c.from_residual.ensures.1 c.in_err-lines.ensures.judged

pub returns-in_err-lines-clause-lends : goal.returns-in_err-lines-clause-lends
returns-in_err-lines-clause-lends g c =
    outside-exit (λ (failed : Bool). g.P.ProofSource.Lends failed c.args.source.now c.args.from.now c.judge_lines.new.source c.judge_lines.new.from) c.from_residual.result c.in_err-lines.field-0.0 c.from_residual.ensures.1 c.in_err-lines.ensures.lends

pub returns-clause-judged : goal.returns-clause-judged
returns-clause-judged g c =
    group-judged (g.V.RuledLines.rules c.args.version) (group_tree c.args.group.now) (g.B.JudgeLines.history c.judge_lines.new.bench) (g.P.ProofSource.told c.args.source.now c.args.from.now) (g.P.ProofSource.told c.judge_lines.new.source c.judge_lines.new.from)
    c.args.code.now.ranges c.in_ok-lines.lines c.is_proved-proved.result c.in_ok-lines.ensures.judged c.is_proved-proved.ensures
