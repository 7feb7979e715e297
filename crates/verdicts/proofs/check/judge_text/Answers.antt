use Rattle.std.proofs.Common.{◌+◌, ◌<◌, ◌≤◌, Bool, false, [], IfSome, Option, Ok, refl, subst, sym, arith, ◌∙◌}
use Rattle.tailrec_lang.specs.declared.group.Group.{Group}
use Rattle.proof_text.specs.FirstProofs.{HasGivenOver}
use Rattle.proof_text.specs.Sources.{Both}
use Rattle.verdicts.specs.declared.check.Tally.{Tally}
use Rattle.verdicts.specs.Pulled.{as_verdict, is_outside}
use Rattle.verdicts.specs.inner.Checking.{NextGroup}
use Rattle.verdicts.proofs.JudgedLemmas.{Groups, group-stopped, no-groups-judged, proof-judged, proof-stopped, text-ended}
use Rattle.verdicts.proofs.SourceLemmas.{err-exit, outside-exit}
use Rattle.verdicts.proofs.Told.{both-here}
use Rattle.verdicts.proofs.check.judge_text.Goals as goal

pub loop-group-init : goal.loop-group-init
loop-group-init g c = record {
  told = both-here (g.P.ProofSource.told c.args.source.now c.args.from.now) (HasGivenOver g.V.RuledLines.readers.grammar []) _ (λ r h. no-groups-judged (g.V.RuledLines.rules c.args.version) c.args.code.now.ranges r h) c.requires.given;
  going = c.requires.going;
  few = omega arith;
  version = refl;
  lends = g.met.P.ProofSource.lends_nothing _ _;
}

pub returns-in_err-group-clause-fault : goal.returns-in_err-group-clause-fault
returns-in_err-group-clause-fault g c =
    let e = c.in_err-group.field-0.0 in
    err-exit _ c.from_residual.result e c.from_residual.ensures.1
    (λ file readable. group-stopped (g.V.RuledLines.rules c.args.version) c.args.code.now.ranges c.loop-group.tally (as_verdict e) (g.P.ProofSource.told c.args.source.now c.args.from.now) (g.P.ProofSource.told c.loop-group.source c.loop-group.from)
    (g.P.ProofSource.told c.next_group.new.source c.next_group.new.from) c.loop-group.invariant.told c.in_err-group.ensures.told file readable)

pub returns-in_err-group-clause-lends : goal.returns-in_err-group-clause-lends
returns-in_err-group-clause-lends g c =
    let e = c.in_err-group.field-0.0 in
    outside-exit (λ (failed : Bool). g.P.ProofSource.Lends failed c.args.source.now c.args.from.now c.next_group.new.source c.next_group.new.from) c.from_residual.result e c.from_residual.ensures.1
    (g.met.P.ProofSource.lends_then (is_outside e) _ _ _ _ _ _ c.loop-group.invariant.lends c.in_err-group.ensures.lends)

pub returns-in_err-judged-clause-fault : goal.returns-in_err-judged-clause-fault
returns-in_err-judged-clause-fault g c =
    let e = c.in_err-judged.field-0.0 in
    let l = g.P.ProofSource.told c.loop-group.source c.loop-group.from in
    let m = g.P.ProofSource.told c.next_group.new.source c.next_group.new.from in
    err-exit _ c.from_residual-in_err-judged.result e c.from_residual-in_err-judged.ensures.1
    (λ file readable. proof-stopped (g.V.RuledLines.rules c.args.version) c.args.code.now.ranges c.loop-group.tally c.in-Some.group (g.P.ProofSource.told c.args.source.now c.args.from.now) l m (g.P.ProofSource.told c.judge_proof.new.source c.judge_proof.new.from)
    c.loop-group.invariant.told (subst (λ (f : Option Group). Both l m (λ old new. NextGroup g.V.RuledLines.readers.grammar c.loop-group.tally.groups old new (Ok f))) c.in-Some.is c.in_ok-group.ensures.told)
    (as_verdict e) c.in_err-judged.ensures.judged file readable)

pub returns-in_err-judged-clause-lends : goal.returns-in_err-judged-clause-lends
returns-in_err-judged-clause-lends g c =
    let e = c.in_err-judged.field-0.0 in
    outside-exit (λ (failed : Bool). g.P.ProofSource.Lends failed c.args.source.now c.args.from.now c.judge_proof.new.source c.judge_proof.new.from) c.from_residual-in_err-judged.result e c.from_residual-in_err-judged.ensures.1
    (g.met.P.ProofSource.lends_then (is_outside e) _ _ _ _ _ _ (g.met.P.ProofSource.lends_then false _ _ _ _ _ _ c.loop-group.invariant.lends c.in_ok-group.ensures.lends) c.in_err-judged.ensures.lends)

pub loop-group-preserved : goal.loop-group-preserved
loop-group-preserved g c =
    let i = c.loop-group.invariant in
    let o = g.P.ProofSource.told c.args.source.now c.args.from.now in
    let l = g.P.ProofSource.told c.loop-group.source c.loop-group.from in
    let m = g.P.ProofSource.told c.next_group.new.source c.next_group.new.from in
    let n = g.P.ProofSource.told c.judge_proof.new.source c.judge_proof.new.from in
    let fewer = subst (λ (f : Option Group). IfSome f (λ _. g.P.ProofSource.left c.next_group.new.source < g.P.ProofSource.left c.loop-group.source)) c.in-Some.is c.in_ok-group.ensures.fewer in
    let lines = c.in_ok-judged.ensures.few in
    record {
      told = subst (λ (t : Tally). Both o n (Groups (g.V.RuledLines.rules c.args.version) c.args.code.now.ranges t)) (sym c.counted-tally.ensures)
          (proof-judged (g.V.RuledLines.rules c.args.version) c.args.code.now.ranges c.loop-group.tally c.in-Some.group o l m n
          i.told (subst (λ (f : Option Group). Both l m (λ old new. NextGroup g.V.RuledLines.readers.grammar c.loop-group.tally.groups old new (Ok f))) c.in-Some.is c.in_ok-group.ensures.told)
          c.in_ok-judged.judged c.in_ok-judged.ensures.judged);
      going = c.in_ok-judged.ensures.goes;
      few = subst (λ (t : Tally). t.groups + t.lines + g.P.ProofSource.left c.judge_proof.new.source ≤ g.P.ProofSource.left c.args.source.now) (sym c.counted-tally.ensures) (omega (arith, i.few, fewer, lines));
      version = c.in_ok-judged.ensures.version ∙ c.in_ok-group.ensures.version ∙ i.version;
      lends = g.met.P.ProofSource.lends_then false _ _ _ _ _ _ (g.met.P.ProofSource.lends_then false _ _ _ _ _ _ i.lends c.in_ok-group.ensures.lends) c.in_ok-judged.ensures.lends;
    }

pub returns-clause-judged : goal.returns-clause-judged
returns-clause-judged g c =
    let m = g.P.ProofSource.told c.loop-group.source c.loop-group.from in
    let n = g.P.ProofSource.told c.next_group.new.source c.next_group.new.from in
    λ file is.
    text-ended (g.V.RuledLines.rules c.args.version) c.args.code.now.ranges c.loop-group.tally (g.P.ProofSource.told c.args.source.now c.args.from.now) m n c.loop-group.invariant.told
    (subst (λ (f : Option Group). Both m n (λ old new. NextGroup g.V.RuledLines.readers.grammar c.loop-group.tally.groups old new (Ok f))) c.in_default.is c.in_ok-group.ensures.told) file is
