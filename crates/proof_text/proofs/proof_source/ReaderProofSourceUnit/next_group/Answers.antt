use Rattle.std.proofs.Common.{◌≡◌, false, Err, sym, subst}
use Rattle.tailrec_lang.specs.declared.group.Group.{Group}
use Rattle.tailrec_lang.specs.Tree.{group_tree}
use Rattle.proof_text.specs.declared.pull_fault.PullFault.{PullFault}
use Rattle.proof_text.specs.Pulling.{IfBad, is_fault}
use Rattle.proof_text.specs.Sources.{BadGroupAt, GivesGroup}
use Rattle.proof_text.proofs.SourceAnswers.{bad_of, no_fault, none_of, some_both, some_of}
use Rattle.proof_text.proofs.proof_source.ReaderProofSourceUnit.next_group.Goals as goal

pub returns-in-Ok-clause-given : goal.returns-in-Ok-clause-given
returns-in-Ok-clause-given g c =
    some_both c.in-Ok.found _ _ (λ (x : Group). GivesGroup g.W.ReadLines.readers.grammar (group_tree x) c.args.self.now c.next_group.new.self) (λ x given shorter. record { on = record { text = c.in-Ok.ensures.text; version = c.in-Ok.ensures.version; shorter = shorter }; given = given })
    c.in-Ok.ensures.given c.in-Ok.ensures.shorter

pub returns-in-Ok-clause-fits : goal.returns-in-Ok-clause-fits
returns-in-Ok-clause-fits g c = some_of c.in-Ok.found _ c.in-Ok.ensures.fits

pub returns-in-Ok-clause-end : goal.returns-in-Ok-clause-end
returns-in-Ok-clause-end g c = none_of c.in-Ok.found _ _ (λ h. h) c.in-Ok.ensures.end

pub returns-in-Ok-clause-fewer : goal.returns-in-Ok-clause-fewer
returns-in-Ok-clause-fewer g c = some_of c.in-Ok.found _ c.in-Ok.ensures.shorter

pub returns-in-Err-clause-bad : goal.returns-in-Err-clause-bad
returns-in-Err-clause-bad g c =
    subst (λ (f : PullFault). IfBad f (λ n. BadGroupAt g.W.ReadLines.readers.grammar n c.args.self.now)) (sym c.fault_of_text.ensures)
    (bad_of Group c.in-Err.fault _ _ (λ n. BadGroupAt g.W.ReadLines.readers.grammar n c.args.self.now) (λ n bad none ps h may. (bad ps h may, none ps h may)) c.in-Err.ensures.bad c.in-Err.ensures.no_item)

pub returns-in-Err-clause-lends : goal.returns-in-Err-clause-lends
returns-in-Err-clause-lends g c = subst (λ (f : PullFault). is_fault {X = Group} (Err f) ≡ false) (sym c.fault_of_text.ensures) (no_fault Group c.in-Err.fault)
