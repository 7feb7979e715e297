use Rattle.std.proofs.Common.{◌∷◌, ◌++◌, [], ◌<◌, Bool, IfNone, IfSome, Option, Err, sym, ap, subst, ◌∙◌}
use Rattle.tailrec_lang.specs.Tree.{GroupTree, group_tree}
use Rattle.group_text.specs.Version.{version_of}
use Rattle.proof_text.specs.Sources.{Both, EndsLines, GivesLine}
use Rattle.verdicts.specs.declared.verdict.Pulled.{Pulled}
use Rattle.verdicts.specs.Pulled.{as_verdict, is_outside}
use Rattle.verdicts.specs.inner.Checking.{LineJudged, MayFollow, NextLine, StandBehind}
use Rattle.verdicts.specs.inner.Sourced.{verdicts}
use Rattle.verdicts.proofs.JudgedLemmas.{line-bad, line-given}
use Rattle.verdicts.proofs.SourceLemmas.{fault-outside, ok-all, ok-so, some-all-of}
use Rattle.verdicts.proofs.check.next_line.Goals as goal

pub judge_line-requires : goal.judge_line-requires
judge_line-requires g c =
    let k = c.in-Ok-Some in
    let v = version_of (g.P.ProofSource.version c.args.source.now) in
    let before = c.requires.behind.0 in
    let stand = c.requires.behind.1 in
    subst (λ (x : GroupTree). MayFollow g.V.RuledLines.readers g.V.RuledLines.Behind (g.B.JudgeLines.GoesWith c.args.bench.now) c.next_line.new.kept.lines (g.V.RuledLines.tree x.code k.line)) (sym c.requires.same) (record {
      old = c.args.kept.now.lines;
      version = v;
      before = before;
      goes = stand.goes;
      behind = stand.behind;
      are = stand.are;
      fits = subst (λ (f : Option _). IfSome f (λ x. g.V.RuledLines.readers.Fits v before (g.V.RuledLines.tree (group_tree c.args.group.now).code x))) k.field-0-is (k.ensures.fits before stand.behind stand.are);
      read = subst (λ (f : Option _). IfSome f (λ x. g.V.RuledLines.Behind c.next_line.new.kept.lines (before ++ g.V.RuledLines.tree (group_tree c.args.group.now).code x ∷ []))) k.field-0-is (k.ensures.behind before stand.behind);
    })

pub returns-in-Ok-Some-clause-judged : goal.returns-in-Ok-Some-clause-judged
returns-in-Ok-Some-clause-judged g c before stand =
    let k = c.in-Ok-Some in
    let R = g.V.RuledLines.readers in
    let J = g.V.RuledLines.rules c.args.version in
    let v = version_of (g.P.ProofSource.version c.args.source.now) in
    let l = g.V.RuledLines.tree (group_tree c.args.group.now).code k.line in
    let o = g.P.ProofSource.told c.args.source.now c.args.from.now in
    let n = g.P.ProofSource.told c.next_line.new.self c.next_line.new.from in
    let h = g.B.JudgeLines.history c.args.bench.now in
    let after = g.B.JudgeLines.history c.judge_line.new.bench in
    let fits = subst (λ (f : Option _). IfSome f (λ x. R.Fits v before (g.V.RuledLines.tree (group_tree c.args.group.now).code x))) k.field-0-is (k.ensures.fits before stand.behind stand.are) in
    let kept = subst (λ (f : Option _). IfSome f (λ x. g.V.RuledLines.Behind c.next_line.new.kept.lines (before ++ g.V.RuledLines.tree (group_tree c.args.group.now).code x ∷ []))) k.field-0-is (k.ensures.behind before stand.behind) in
    line-given R J (group_tree c.args.group.now) before h after (StandBehind R.grammar v (g.V.RuledLines.Behind c.next_line.new.kept.lines) (g.B.JudgeLines.GoesWith c.judge_line.new.bench c.next_line.new.kept.lines)) o n l c.last_place.result c.judge_line.result
    (subst (λ (f : Option _). IfSome f (λ x. Both o n (GivesLine R.grammar (group_tree c.args.group.now) before (g.V.RuledLines.tree (group_tree c.args.group.now).code x)))) k.field-0-is (k.ensures.given before stand.behind stand.are))
    (c.last_place.ensures c.next_line.new.from)
    (subst (λ (x : GroupTree). LineJudged J x before h (g.V.RuledLines.tree x.code k.line) after c.last_place.result (verdicts c.judge_line.result)) c.requires.same (c.judge_line.ensures.judged c.args.kept.now.lines before stand.goes stand.behind))
    (ok-so c.judge_line.result _ _ (λ goes. record { behind = kept; goes = goes; are = c.requires.laws.more before l stand.are fits }) c.judge_line.ensures.goes)

pub returns-in-Ok-Some-clause-goes : goal.returns-in-Ok-Some-clause-goes
returns-in-Ok-Some-clause-goes g c = ok-all c.judge_line.result _ c.in-Ok-Some.ensures.goes

pub returns-in-Ok-Some-clause-fewer : goal.returns-in-Ok-Some-clause-fewer
returns-in-Ok-Some-clause-fewer g c =
    some-all-of c.judge_line.result _ (subst (λ (f : Option _). IfSome f (λ _. g.P.ProofSource.left c.next_line.new.self < g.P.ProofSource.left c.args.source.now)) c.in-Ok-Some.field-0-is c.in-Ok-Some.ensures.fewer)

pub returns-in-Ok-Some-clause-lends : goal.returns-in-Ok-Some-clause-lends
returns-in-Ok-Some-clause-lends g c =
    subst (λ (failed : Bool). g.P.ProofSource.Lends failed c.args.source.now c.args.from.now c.next_line.new.self c.next_line.new.from) (sym c.judge_line.ensures.inside) c.in-Ok-Some.ensures.lends

pub returns-in-Ok-None-clause-judged : goal.returns-in-Ok-None-clause-judged
returns-in-Ok-None-clause-judged g c before stand =
    let k = c.in-Ok-None in
    let o = g.P.ProofSource.told c.args.source.now c.args.from.now in
    let n = g.P.ProofSource.told c.next_line.new.self c.next_line.new.from in
    (subst (λ (f : Option _). IfNone f (Both o n EndsLines)) k.field-0-is k.ensures.end, λ i. g.B.JudgeLines.history c.args.bench.now)

pub returns-in-Err-clause-judged : goal.returns-in-Err-clause-judged
returns-in-Err-clause-judged g c before stand =
    let k = c.in-Err in
    let R = g.V.RuledLines.readers in
    let J = g.V.RuledLines.rules c.args.version in
    let known = g.P.ProofSource.version c.args.source.now in
    let h = g.B.JudgeLines.history c.args.bench.now in
    let After = StandBehind R.grammar (version_of known) (g.V.RuledLines.Behind c.next_line.new.kept.lines) (g.B.JudgeLines.GoesWith c.args.bench.now c.next_line.new.kept.lines) in
    let o = g.P.ProofSource.told c.args.source.now c.args.from.now in
    let n = g.P.ProofSource.told c.next_line.new.self c.next_line.new.from in
    subst (λ (e : Pulled). NextLine J (group_tree c.args.group.now) before h h After o n (Err (as_verdict e))) (sym c.pulled_of.ensures)
    (line-bad R J (group_tree c.args.group.now) before h h After o n known c.requires.laws k.fault (g.met.P.ProofSource.told_version c.args.source.now c.args.from.now) (k.ensures.bad before stand.behind stand.are))

pub returns-in-Err-clause-lends : goal.returns-in-Err-clause-lends
returns-in-Err-clause-lends g c =
    subst (λ (failed : Bool). g.P.ProofSource.Lends failed c.args.source.now c.args.from.now c.next_line.new.self c.next_line.new.from) (fault-outside g.row.V-Line.Denot c.in-Err.fault ∙ ap is_outside (sym c.pulled_of.ensures)) c.in-Err.ensures.lends
