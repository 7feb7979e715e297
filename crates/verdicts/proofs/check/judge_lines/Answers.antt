use Rattle.std.proofs.Common.{◌<◌, Bool, false, IfSome, Option, Ok, refl, sym, subst, ◌∙◌, arith}
use Rattle.tailrec_lang.specs.Tree.{group_tree}
use Rattle.group_text.specs.declared.version.Version.{Version as Known}
use Rattle.group_text.specs.Version.{version_of}
use Rattle.verdicts.specs.Pulled.{as_verdict, is_outside}
use Rattle.verdicts.specs.inner.Checking.{LinesJudged, LinesSoFar, NextLine, StandBehind}
use Rattle.verdicts.proofs.JudgedLemmas.{line-judged, lines-ended, lines-stopped, no-lines-judged}
use Rattle.verdicts.proofs.SourceLemmas.{outside-exit, verdicts-exit}
use Rattle.verdicts.proofs.check.judge_lines.Goals as goal

pub loop-counts-init : goal.loop-counts-init
loop-counts-init g c = record {
  judged = no-lines-judged (g.V.RuledLines.rules c.args.version) (group_tree c.args.group.now) (g.B.JudgeLines.history c.args.bench.now)
      (StandBehind g.V.RuledLines.readers.grammar (version_of (g.P.ProofSource.version c.args.source.now)) (g.V.RuledLines.Behind c.args.kept.now.lines) (g.B.JudgeLines.GoesWith c.args.bench.now c.args.kept.now.lines))
      (g.P.ProofSource.told c.args.source.now c.args.from.now) (record { behind = c.requires.kept; goes = c.requires.bench; are = c.requires.laws.none }) c.requires.none;
  going = c.requires.going;
  same = c.requires.same;
  few = omega arith;
  version = refl;
  lends = g.met.P.ProofSource.lends_nothing _ _;
}

pub loop-counts-preserved : goal.loop-counts-preserved
loop-counts-preserved g c =
    let i = c.loop-counts.invariant in
    let J = g.V.RuledLines.rules c.args.version in
    let L = g.V.RuledLines.readers.grammar in
    let next = c.in_ok-counts.ensures in
    let h = g.B.JudgeLines.history c.loop-counts.bench in
    let after = g.B.JudgeLines.history c.next_line.new.bench in
    let before = StandBehind L (version_of (g.P.ProofSource.version c.loop-counts.source)) (g.V.RuledLines.Behind c.loop-counts.kept.lines) (g.B.JudgeLines.GoesWith c.loop-counts.bench c.loop-counts.kept.lines) in
    let behind = StandBehind L (version_of (g.P.ProofSource.version c.loop-counts.source)) (g.V.RuledLines.Behind c.next_line.new.kept.lines) (g.B.JudgeLines.GoesWith c.next_line.new.bench c.next_line.new.kept.lines) in
    let o = g.P.ProofSource.told c.args.source.now c.args.from.now in
    let m = g.P.ProofSource.told c.loop-counts.source c.loop-counts.from in
    let n = g.P.ProofSource.told c.next_line.new.source c.next_line.new.from in
    let fewer = subst (λ (f : Option Bool). IfSome f (λ _. g.P.ProofSource.left c.next_line.new.source < g.P.ProofSource.left c.loop-counts.source)) c.in-Some.is next.fewer in
    record {
      judged = subst
          (λ (k : Known). LinesSoFar J (group_tree c.args.group.now) after (StandBehind L (version_of k) (g.V.RuledLines.Behind c.next_line.new.kept.lines) (g.B.JudgeLines.GoesWith c.next_line.new.bench c.next_line.new.kept.lines)) o n c.with_line-lines.result)
          (sym next.version)
          (subst (λ (x : _). LinesSoFar J (group_tree c.args.group.now) after behind o n x) (sym c.with_line-lines.ensures.counted)
          (line-judged J (group_tree c.args.group.now) h after before behind o m n c.loop-counts.lines i.judged c.in-Some.counts
          (λ ls stand. subst (λ (f : Option Bool). NextLine J (group_tree c.args.group.now) ls h after behind m n (Ok f)) c.in-Some.is (next.judged ls stand))));
      going = next.goes;
      same = next.group ∙ i.same;
      few = omega (arith, i.few, fewer, c.with_line-lines.ensures.few);
      version = next.version ∙ i.version;
      lends = g.met.P.ProofSource.lends_then false _ _ _ _ _ _ i.lends next.lends;
    }

pub returns-in_err-counts-clause-judged : goal.returns-in_err-counts-clause-judged
returns-in_err-counts-clause-judged g c =
    let i = c.loop-counts.invariant in
    let J = g.V.RuledLines.rules c.args.version in
    let L = g.V.RuledLines.readers.grammar in
    let e = c.in_err-counts.field-0.0 in
    let h = g.B.JudgeLines.history c.loop-counts.bench in
    let after = g.B.JudgeLines.history c.next_line.new.bench in
    let before = StandBehind L (version_of (g.P.ProofSource.version c.loop-counts.source)) (g.V.RuledLines.Behind c.loop-counts.kept.lines) (g.B.JudgeLines.GoesWith c.loop-counts.bench c.loop-counts.kept.lines) in
    let behind = StandBehind L (version_of (g.P.ProofSource.version c.loop-counts.source)) (g.V.RuledLines.Behind c.next_line.new.kept.lines) (g.B.JudgeLines.GoesWith c.next_line.new.bench c.next_line.new.kept.lines) in
    let o = g.P.ProofSource.told c.args.source.now c.args.from.now in
    let m = g.P.ProofSource.told c.loop-counts.source c.loop-counts.from in
    let n = g.P.ProofSource.told c.next_line.new.source c.next_line.new.from in
    verdicts-exit (λ r. LinesJudged J (group_tree c.args.group.now) after o n r) c.from_residual.result e c.from_residual.ensures.1
    (lines-stopped J (group_tree c.args.group.now) h after before behind o m n c.loop-counts.lines i.judged (as_verdict e) c.in_err-counts.ensures.judged)

pub returns-in_err-counts-clause-lends : goal.returns-in_err-counts-clause-lends
returns-in_err-counts-clause-lends g c =
    let e = c.in_err-counts.field-0.0 in
    outside-exit (λ (failed : Bool). g.P.ProofSource.Lends failed c.args.source.now c.args.from.now c.next_line.new.source c.next_line.new.from) c.from_residual.result e c.from_residual.ensures.1
    (g.met.P.ProofSource.lends_then (is_outside e) _ _ _ _ _ _ c.loop-counts.invariant.lends c.in_err-counts.ensures.lends)

pub returns-clause-judged : goal.returns-clause-judged
returns-clause-judged g c =
    let i = c.loop-counts.invariant in
    let J = g.V.RuledLines.rules c.args.version in
    let L = g.V.RuledLines.readers.grammar in
    let h = g.B.JudgeLines.history c.loop-counts.bench in
    let after = g.B.JudgeLines.history c.next_line.new.bench in
    let before = StandBehind L (version_of (g.P.ProofSource.version c.loop-counts.source)) (g.V.RuledLines.Behind c.loop-counts.kept.lines) (g.B.JudgeLines.GoesWith c.loop-counts.bench c.loop-counts.kept.lines) in
    let behind = StandBehind L (version_of (g.P.ProofSource.version c.loop-counts.source)) (g.V.RuledLines.Behind c.next_line.new.kept.lines) (g.B.JudgeLines.GoesWith c.next_line.new.bench c.next_line.new.kept.lines) in
    let o = g.P.ProofSource.told c.args.source.now c.args.from.now in
    let m = g.P.ProofSource.told c.loop-counts.source c.loop-counts.from in
    let n = g.P.ProofSource.told c.next_line.new.source c.next_line.new.from in
    lines-ended J (group_tree c.args.group.now) h after before behind o m n c.loop-counts.lines i.judged
    (λ ls stand. subst (λ (f : Option Bool). NextLine J (group_tree c.args.group.now) ls h after behind m n (Ok f)) c.in_default.is (c.in_ok-counts.ensures.judged ls stand))
