use Rattle.std.proofs.Common.{Bool, IfNone, IfSome, Option, Err, sym, ap, subst, ◌∙◌}
use Rattle.tailrec_lang.specs.declared.group.Group.{Group}
use Rattle.tailrec_lang.specs.Tree.{group_tree}
use Rattle.proof_text.specs.Sources.{Both, EndsText, GivesGroup}
use Rattle.verdicts.specs.declared.verdict.Pulled.{Pulled}
use Rattle.verdicts.specs.Pulled.{as_verdict, is_outside}
use Rattle.verdicts.specs.inner.Checking.{NextGroup}
use Rattle.verdicts.proofs.SourceLemmas.{fault-outside, group-bad, group-ill}
use Rattle.verdicts.proofs.Told.{both-told}
use Rattle.verdicts.proofs.check.next_group.Goals as goal

pub returns-in-Ok-None-clause-told : goal.returns-in-Ok-None-clause-told
returns-in-Ok-None-clause-told g c =
    let k = c.in-Ok-None in
    let L = g.V.RuledLines.readers.grammar in
    let o = g.P.ProofSource.told c.args.source.now c.args.from.now in
    both-told o (g.P.ProofSource.told c.next_group.new.self c.next_group.new.from) (EndsText L) _ (λ old new ends. ends) (g.met.P.ProofSource.lends_tells _ _ _ _ _ k.ensures.lends)
    (subst (λ (f : Option Group). IfNone f (IfSome o (EndsText L))) k.field-0-is k.ensures.end)

pub returns-in-Err-clause-told : goal.returns-in-Err-clause-told
returns-in-Err-clause-told g c =
    let k = c.in-Err in
    let R = g.V.RuledLines.readers in
    let known = g.P.ProofSource.version c.args.source.now in
    let o = g.P.ProofSource.told c.args.source.now c.args.from.now in
    let n = g.P.ProofSource.told c.next_group.new.self c.next_group.new.from in
    subst (λ (e : Pulled). Both o n (λ old new. NextGroup R.grammar c.args.number old new (Err (as_verdict e)))) (sym c.pulled_of.ensures)
    (group-bad R o n c.args.number known c.requires.laws k.fault (g.met.P.ProofSource.told_version c.args.source.now c.args.from.now) k.ensures.bad (g.met.P.ProofSource.lends_tells _ _ _ _ _ k.ensures.lends))

pub returns-in-Err-clause-lends : goal.returns-in-Err-clause-lends
returns-in-Err-clause-lends g c =
    subst (λ (failed : Bool). g.P.ProofSource.Lends failed c.args.source.now c.args.from.now c.next_group.new.self c.next_group.new.from) (fault-outside Group c.in-Err.fault ∙ ap is_outside (sym c.pulled_of.ensures)) c.in-Err.ensures.lends

pub returns-in-Err-well_formed-clause-told : goal.returns-in-Err-well_formed-clause-told
returns-in-Err-well_formed-clause-told g c =
    let k = c.in-Ok-Some in
    let R = g.V.RuledLines.readers in
    let o = g.P.ProofSource.told c.args.source.now c.args.from.now in
    let n = g.P.ProofSource.told c.next_group.new.self c.next_group.new.from in
    group-ill R o n c.args.number k.group c.in-Err-well_formed.bad.def (subst (λ (f : Option Group). IfSome f (λ x. Both o n (GivesGroup R.grammar (group_tree x)))) k.field-0-is k.ensures.given) c.in-Err-well_formed.ensures.first
