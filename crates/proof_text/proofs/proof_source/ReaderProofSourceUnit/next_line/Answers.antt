use Rattle.std.proofs.Common.{◌≡◌, false, Err, length, ap, sym, subst, arith}
use Rattle.tailrec_lang.specs.Tree.{group_tree}
use Rattle.proof_text.specs.declared.pull_fault.PullFault.{PullFault}
use Rattle.proof_text.specs.FirstProofs.{Progress}
use Rattle.proof_text.specs.Pulling.{IfBad, is_fault}
use Rattle.proof_text.specs.Sources.{BadLineAt, GivesLine}
use Rattle.proof_text.proofs.SourceAnswers.{bad_of, ended_of, fewer_of, no_fault, some_both, some_of}
use Rattle.proof_text.proofs.proof_source.ReaderProofSourceUnit.next_line.Goals as goal

pub returns-in-Ok-clause-given : goal.returns-in-Ok-clause-given
returns-in-Ok-clause-given g c =
    λ ls kept are.
    some_both c.in-Ok.found _ _ (λ (l : g.row.W-Line.Denot). GivesLine g.W.ReadLines.readers.grammar (group_tree c.args.group.now) ls (g.W.ReadLines.tree c.args.group.now.code.ranges l) c.args.self.now c.next_line.new.self) (λ l given shorter. record { on = record { text = c.in-Ok.ensures.text; version = c.in-Ok.ensures.version; shorter = shorter }; given = given })
    (c.in-Ok.ensures.given ls kept) c.in-Ok.ensures.shorter

pub returns-in-Ok-clause-end : goal.returns-in-Ok-clause-end
returns-in-Ok-clause-end g c = ended_of c.in-Ok.found _ _ c.in-Ok.ensures.end_same c.in-Ok.ensures.end

pub returns-in-Ok-clause-left : goal.returns-in-Ok-clause-left
returns-in-Ok-clause-left g c = fewer_of c.in-Ok.found c.args.self.now c.next_line.new.self c.in-Ok.ensures.end_same c.in-Ok.ensures.shorter

pub returns-in-Ok-clause-fewer : goal.returns-in-Ok-clause-fewer
returns-in-Ok-clause-fewer g c = some_of c.in-Ok.found _ c.in-Ok.ensures.shorter

pub returns-in-Err-clause-bad : goal.returns-in-Err-clause-bad
returns-in-Err-clause-bad g c =
    λ ls kept are.
    subst (λ (f : PullFault). IfBad f (λ n. BadLineAt g.W.ReadLines.readers.grammar (group_tree c.args.group.now) ls n c.args.self.now)) (sym c.fault_of_text.ensures)
    (bad_of g.row.W-Line.Denot c.in-Err.fault _ _ (λ n. BadLineAt g.W.ReadLines.readers.grammar (group_tree c.args.group.now) ls n c.args.self.now) (λ n bad none ps p h same lines. (bad ps p h same lines, none ps p h same lines)) (c.in-Err.ensures.bad ls kept) (c.in-Err.ensures.no_item ls kept))

pub returns-in-Err-clause-lends : goal.returns-in-Err-clause-lends
returns-in-Err-clause-lends g c = subst (λ (f : PullFault). is_fault {X = g.row.W-Line.Denot} (Err f) ≡ false) (sym c.fault_of_text.ensures) (no_fault g.row.W-Line.Denot c.in-Err.fault)

pub returns-in-Err-clause-left : goal.returns-in-Err-clause-left
returns-in-Err-clause-left g c = let e = ap (λ (r : Progress). length r.rest) c.in-Err.ensures.fault_same in omega (arith, e)

pub returns-in-Ok-clause-fits : goal.returns-in-Ok-clause-fits
returns-in-Ok-clause-fits g c = λ ls kept are. some_of c.in-Ok.found _ (c.in-Ok.ensures.fits ls kept are)

pub returns-in-Ok-clause-behind : goal.returns-in-Ok-clause-behind
returns-in-Ok-clause-behind g c = λ ls kept. some_of c.in-Ok.found _ (c.in-Ok.ensures.behind ls kept)
