use Rattle.std.proofs.Common.{◌≡◌, ◌∷◌, ◌++◌, [], Result, Ok, Err, sym, ap, subst, ◌∙◌}
use Rattle.std.specs.Prelude.{IsErrOf}
use Rattle.std.specs.Result.{IsErrAnd}
use Rattle.triple_kernel.specs.declared.fault.RuleFault.{RuleFault}
use Rattle.short_text.specs.ShortProofs.{IsNextLine}
use Rattle.short_text.specs.declared.short.ShortLine.{ShortLine}
use Rattle.short_text.specs.SpelledShort.{short_line_or_own, short_or_own}
use Rattle.short_text.specs.inner.ShortReaders.{AreKept}
use Rattle.checker.specs.Bench.{state_group, state_history}
use Rattle.checker.specs.ShortRules.{LeavesOver}
use Rattle.checker.proofs.StandingLemmas.{line_fine, line_goes, line_leaves, line_wrong, term_children, term_goes, term_new}
use Rattle.checker.proofs.short_judge.TableBenchJudgeLinesByTable.judge_line.Goals as goal

pub put_term-requires-clause-children : goal.put_term-requires-clause-children
put_term-requires-clause-children c =
    let r = c.requires in
    term_children c.args.self.now.bench c.args.self.now.terms r.old.lines r.before r.goes r.behind c.in-Term.n (subst (λ (l : ShortLine). IsNextLine r.before (short_line_or_own (state_group c.args.self.now.bench).code c.args.line.all l)) c.in-Term.is r.fits)

pub put_term-requires-clause-new : goal.put_term-requires-clause-new
put_term-requires-clause-new c =
    let r = c.requires in
    term_new c.args.self.now.bench c.args.self.now.terms r.old.lines r.before r.goes r.behind c.in-Term.n (subst (λ (l : ShortLine). IsNextLine r.before (short_line_or_own (state_group c.args.self.now.bench).code c.args.line.all l)) c.in-Term.is r.fits)

pub returns-in_ok-put_term-in-Term-clause-goes : goal.returns-in_ok-put_term-in-Term-clause-goes
returns-in_ok-put_term-in-Term-clause-goes c =
    let r = c.requires in
    let k = c.in_ok-put_term-in-Term.ensures in
    let new = c.put_term.new.self in
    term_goes c.args.self.now.bench c.args.self.now.terms r.old.lines r.before r.goes r.behind c.in-Term.n (subst (λ (l : ShortLine). IsNextLine r.before (short_line_or_own (state_group c.args.self.now.bench).code c.args.line.all l)) c.in-Term.is r.fits) new.bench new.terms c.args._lines.now.lines
    k.nodes k.group k.same k.terms (subst (λ (l : ShortLine). AreKept c.args._lines.now.lines (r.before ++ short_line_or_own (state_group c.args.self.now.bench).code c.args.line.all l ∷ [])) c.in-Term.is r.read)

pub derive-requires-clause-line : goal.derive-requires-clause-line
derive-requires-clause-line c =
    let r = c.requires in
    line_fine c.args.self.now.bench c.args.self.now.terms r.old.lines r.before r.goes r.behind (short_or_own (state_group c.args.self.now.bench).code c.args.line.all c.in-Proof.s) r.are (subst (λ (l : ShortLine). IsNextLine r.before (short_line_or_own (state_group c.args.self.now.bench).code c.args.line.all l)) c.in-Proof.is r.fits)

pub returns-in_ok-derive-in-Proof-clause-leaves : goal.returns-in_ok-derive-in-Proof-clause-leaves
returns-in_ok-derive-in-Proof-clause-leaves c old before stands kept =
    let r = c.requires in
    let b = c.args.self.now.bench in
    let next = state_history c.derive.new.self.bench in
    subst (λ (l : ShortLine). LeavesOver (state_group b) before (state_history b) (short_line_or_own (state_group b).code c.args.line.all l) next) (sym c.in-Proof.is)
    (line_leaves b c.args.self.now.terms r.old.lines r.before r.goes r.behind (short_or_own (state_group c.args.self.now.bench).code c.args.line.all c.in-Proof.s) r.are (subst (λ (l : ShortLine). IsNextLine r.before (short_line_or_own (state_group c.args.self.now.bench).code c.args.line.all l)) c.in-Proof.is r.fits) old.lines before stands kept next c.in_ok-derive-in-Proof.ensures.left)

pub returns-in_ok-derive-in-Proof-clause-goes : goal.returns-in_ok-derive-in-Proof-clause-goes
returns-in_ok-derive-in-Proof-clause-goes c =
    let r = c.requires in
    let k = c.in_ok-derive-in-Proof.ensures in
    let new = c.derive.new.self in
    line_goes c.args.self.now.bench c.args.self.now.terms r.old.lines r.before r.goes r.behind (short_or_own (state_group c.args.self.now.bench).code c.args.line.all c.in-Proof.s) r.are (subst (λ (l : ShortLine). IsNextLine r.before (short_line_or_own (state_group c.args.self.now.bench).code c.args.line.all l)) c.in-Proof.is r.fits) new.bench new.terms c.args._lines.now.lines
    k.grows k.group k.left k.terms (subst (λ (l : ShortLine). AreKept c.args._lines.now.lines (r.before ++ short_line_or_own (state_group c.args.self.now.bench).code c.args.line.all l ∷ [])) c.in-Proof.is r.read)

same-fault : {T U : Type 0} (r : Result T RuleFault) (e f : RuleFault) → IsErrAnd r (λ y. y ≡ e) → IsErrOf r f → IsErrOf {T = U} (Err e) f
same-fault (Ok x) e f is wrong = absurd is
same-fault (Err y) e f is wrong = let same : y ≡ f = cc in ap (λ (z : RuleFault). Err z) (sym is ∙ same)

pub returns-in_err-derive-in-Proof-clause-wrong : goal.returns-in_err-derive-in-Proof-clause-wrong
returns-in_err-derive-in-Proof-clause-wrong c old before stands kept wrong next leaves =
    let r = c.requires in
    let b = c.args.self.now.bench in
    let k = c.in_err-derive-in-Proof in
    line_wrong b c.args.self.now.terms r.old.lines r.before r.goes r.behind (short_or_own (state_group c.args.self.now.bench).code c.args.line.all c.in-Proof.s) r.are (subst (λ (l : ShortLine). IsNextLine r.before (short_line_or_own (state_group c.args.self.now.bench).code c.args.line.all l)) c.in-Proof.is r.fits) old.lines before stands kept
    (k.ensures.no_instance (same-fault c.from_residual-in_err-derive-in-Proof.result k.field-0.0 _ c.from_residual-in_err-derive-in-Proof.ensures.1 wrong)) next
    (subst (λ (l : ShortLine). LeavesOver (state_group b) before (state_history b) (short_line_or_own (state_group b).code c.args.line.all l) next) c.in-Proof.is leaves)
