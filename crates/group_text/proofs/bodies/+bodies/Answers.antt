use Rattle.std.proofs.Common.{map, codes, ◌-◌, ◌∙◌, arith, List as Items}
use Rattle.mc_text.specs.Reading.{pair}
use Rattle.mc_text.specs.inner.Reading.{times, with_prefix}
use Rattle.tailrec_lang.specs.declared.group.Body.{Body}
use Rattle.tailrec_lang.specs.Tree.{BodyTree, Branch, Call, arms_of, values_tree, body_tree, step_tree}
use Rattle.tailrec_lang.specs.inner.Tree.{end_tree}
use Rattle.group_text.specs.inner.Reading.{arm_at, body_at, end_at, mark_row}
use Rattle.group_text.proofs.Loops.{times-pushed, one-less, none-left}
use Rattle.group_text.specs.inner.Rows.{tokens}
use Rattle.group_text.proofs.Joins.{so-init, so-more, so-err, so-ok, ok-made, ok-with}
use Rattle.group_text.proofs.BodyJoins.{no-body, body-first, body-second, body-ok, end-first, end-second, pair-first, pair-second, err-made, row-was, end-is, no-more, passed-on, times-failed}
use Rattle.tailrec_lang.proofs.Views.{view_body, view_branch, view_call, view_again, view_leave}
use Rattle.word_terms.specs.Tree.{cond_tree}
use Rattle.group_text.specs.inner.BodyRows.{end_row_tree, If, CallOf, AgainWith, LeaveBy}
use Rattle.group_text.specs.declared.body_rows.EndRow.TheVariants as row
use Rattle.group_text.proofs.RowLawsOf.{end-row, mark-row, small-bound}
use Rattle.group_text.specs.declared.read_error.ReadError.TheVariants as halt
use Rattle.group_text.proofs.Lending.{lends-on}
use Rattle.group_text.proofs.bodies.+bodies.Goals as goal

pub read_arms-arms-init : goal.read_arms-arms-init
read_arms-arms-init g t c = record { told = so-init body_tree (times c.args.count (arm_at (body_at c.args.room))) _ c.new-arms.result c.new-arms.ensures; left = omega arith; lends = g.met.R.Rows.lends_nothing _ _ }

pub read_arms-arms-preserved : goal.read_arms-arms-preserved
read_arms-arms-preserved g t c = record {
  told = so-more body_tree (arm_at (body_at c.args.room)) (times c.args.count (arm_at (body_at c.args.room))) c.in-Ok.arm _ _ _ _ (λ ts. with_prefix (map body_tree c.arms.arms) (times c.arms.left (arm_at (body_at c.args.room)) ts)) (λ ts. with_prefix (map body_tree c.push.new.self) (times (c.arms.left - 1) (arm_at (body_at c.args.room)) ts)) c.arms.invariant.told (λ p may. may)
      (λ p may rest total e h. times-pushed body_tree (arm_at (body_at c.args.room)) c.arms.left _ c.arms.arms _ _ (tokens p) rest total (one-less c.arms.left c.arms-test.true) c.in_ok-push-in-Ok.ensures.ok e h)
      c.in-Ok.ensures.gives;
  left = omega (arith, c.in-Ok.ensures.left, c.arms.invariant.left);
  lends = g.met.R.Rows.lends_then _ _ _ _ _ _ _ c.arms.invariant.lends c.in-Ok.ensures.lends;
}

pub read_arms-returns-in-Err-clause-gives : goal.read_arms-returns-in-Err-clause-gives
read_arms-returns-in-Err-clause-gives g t c = so-err body_tree (λ (arms : Items Body). map body_tree arms) (arm_at (body_at c.args.room)) (times c.args.count (arm_at (body_at c.args.room))) c.in-Err.halt _ _ _ _ (λ ts. with_prefix (map body_tree c.arms.arms) (times c.arms.left (arm_at (body_at c.args.room)) ts)) c.arms.invariant.told (λ p may. may)
    (λ p may bad total e h. times-failed (arm_at (body_at c.args.room)) c.arms.left (map body_tree c.arms.arms) (tokens p) bad total c.arms-test.true e h)
    c.in-Err.ensures.gives

pub read_arms-returns-clause-gives : goal.read_arms-returns-clause-gives
read_arms-returns-clause-gives g t c = so-ok (λ (arms : Items Body). map body_tree arms) (times c.args.count (arm_at (body_at c.args.room))) c.arms.arms _ _ _ (λ ts. with_prefix (map body_tree c.arms.arms) (times c.arms.left (arm_at (body_at c.args.room)) ts)) c.arms.invariant.told (λ p may. may)
    (λ q may total h. none-left (arm_at (body_at c.args.room)) (map body_tree c.arms.arms) c.arms.left (tokens q) total c.arms-test.false h)

pub read_body-returns-then-room-eq0-clause-gives : goal.read_body-returns-then-room-eq0-clause-gives
read_body-returns-then-room-eq0-clause-gives g t c = no-body c.args.room _ c.if-room-eq0.true

pub read_body-returns-in_err-steps-clause-gives : goal.read_body-returns-in_err-steps-clause-gives
read_body-returns-in_err-steps-clause-gives g t c = passed-on body_tree c.in_err-steps.field-0.0 c.from_residual.result _ _ (body_at c.args.room) c.from_residual.ensures.1 (body-first c.args.room c.if-room-eq0.false _ _ (λ steps. map step_tree steps) body_tree c.in_err-steps.field-0.0 c.in_err-steps.ensures.gives)

pub read_body-returns-in_err-end-clause-gives : goal.read_body-returns-in_err-end-clause-gives
read_body-returns-in_err-end-clause-gives g t c = passed-on body_tree c.in_err-end.field-0.0 c.from_residual-in_err-end.result _ _ (body_at c.args.room) c.from_residual-in_err-end.ensures.1
    (body-second c.args.room c.if-room-eq0.false _ _ end_tree body_tree c.in_err-end.field-0.0 _ (map step_tree c.in_ok-steps.steps) c.in_ok-steps.ensures.gives c.in_err-end.ensures.gives)

pub read_body-returns-clause-gives : goal.read_body-returns-clause-gives
read_body-returns-clause-gives g t c = body-ok c.args.room c.if-room-eq0.false _ _ _ (map step_tree c.in_ok-steps.steps) (end_tree c.in_ok-end.end) _ (view_body _) c.in_ok-steps.ensures.gives c.in_ok-end.ensures.gives

abbrev Three : Type 0
Three = BodyTree × ((Unit {0} × Unit {0}) × BodyTree)

abbrev three : Body × Body → Three
three b = (body_tree b.0, ((tt, tt), body_tree b.1))

abbrev marked : (Unit {0} × Unit {0}) × BodyTree → (Unit {0} × Unit {0}) × BodyTree
marked x = x

pub read_arm-returns-in_err-next_row-clause-gives : goal.read_arm-returns-in_err-next_row-clause-gives
read_arm-returns-in_err-next_row-clause-gives g t c = passed-on body_tree c.in_err-next_row.field-0.0 c.from_residual.result _ _ (arm_at (body_at c.args.room)) c.from_residual.ensures.1
    (err-made marked body_tree (λ (x : (Unit {0} × Unit {0}) × BodyTree). x.1) c.in_err-next_row.field-0.0 _ _ (pair (mark_row (codes "arm")) (body_at c.args.room))
    (pair-first {A = Unit {0}} (λ _. (tt, tt)) marked c.in_err-next_row.field-0.0 _ _ (mark_row (codes "arm")) (body_at c.args.room) (c.in_err-next_row.ensures.gives (mark-row (codes "arm")))))

pub read_arm-returns-in_err-body-clause-gives : goal.read_arm-returns-in_err-body-clause-gives
read_arm-returns-in_err-body-clause-gives g t c = passed-on body_tree c.in_err-body.field-0.0 c.from_residual-in_err-body.result _ _ (arm_at (body_at c.args.room)) c.from_residual-in_err-body.ensures.1
    (err-made marked body_tree (λ (x : (Unit {0} × Unit {0}) × BodyTree). x.1) c.in_err-body.field-0.0 _ _ (pair (mark_row (codes "arm")) (body_at c.args.room))
    (pair-second body_tree marked c.in_err-body.field-0.0 _ _ _ (mark_row (codes "arm")) (body_at c.args.room) (tt, tt) (c.in_ok-next_row.ensures.gives (mark-row (codes "arm"))) c.in_err-body.ensures.gives))

pub read_arm-returns-clause-gives : goal.read_arm-returns-clause-gives
read_arm-returns-clause-gives g t c = ok-made (λ (x : (Unit {0} × Unit {0}) × BodyTree). x.1) (pair (mark_row (codes "arm")) (body_at c.args.room)) _ _ ((tt, tt), body_tree c.in_ok-body.body)
    (ok-with (mark_row (codes "arm")) (λ _. body_at c.args.room) _ _ (tt, tt) (body_tree c.in_ok-body.body) _ (c.in_ok-next_row.ensures.gives (mark-row (codes "arm"))) c.in_ok-body.ensures.gives)

pub read_branch-returns-clause-gives : goal.read_branch-returns-clause-gives
read_branch-returns-clause-gives g t c = ok-with (body_at c.args.room) (λ _. pair (mark_row (codes "else")) (body_at c.args.room)) _ _ (body_tree c.in_ok-first.first) ((tt, tt), body_tree c.in_ok-second.second) _ c.in_ok-first.ensures.gives
    (ok-with (mark_row (codes "else")) (λ _. body_at c.args.room) _ _ (tt, tt) (body_tree c.in_ok-second.second) _ (c.in_ok-next_row.ensures.gives (mark-row (codes "else"))) c.in_ok-second.ensures.gives)

pub read_branch-returns-in_err-next_row-clause-gives : goal.read_branch-returns-in_err-next_row-clause-gives
read_branch-returns-in_err-next_row-clause-gives g t c = passed-on three c.in_err-next_row.field-0.0 c.from_residual-in_err-next_row.result _ _ (pair (body_at c.args.room) (pair (mark_row (codes "else")) (body_at c.args.room))) c.from_residual-in_err-next_row.ensures.1
    (pair-second marked three c.in_err-next_row.field-0.0 _ _ _ (body_at c.args.room) (pair (mark_row (codes "else")) (body_at c.args.room)) (body_tree c.in_ok-first.first) c.in_ok-first.ensures.gives
    (pair-first {A = Unit {0}} (λ _. (tt, tt)) marked c.in_err-next_row.field-0.0 _ _ (mark_row (codes "else")) (body_at c.args.room) (c.in_err-next_row.ensures.gives (mark-row (codes "else")))))

pub read_branch-returns-in_err-second-clause-gives : goal.read_branch-returns-in_err-second-clause-gives
read_branch-returns-in_err-second-clause-gives g t c = passed-on three c.in_err-second.field-0.0 c.from_residual-in_err-second.result _ _ (pair (body_at c.args.room) (pair (mark_row (codes "else")) (body_at c.args.room))) c.from_residual-in_err-second.ensures.1
    (pair-second marked three c.in_err-second.field-0.0 _ _ _ (body_at c.args.room) (pair (mark_row (codes "else")) (body_at c.args.room)) (body_tree c.in_ok-first.first) c.in_ok-first.ensures.gives
    (pair-second body_tree marked c.in_err-second.field-0.0 _ _ _ (mark_row (codes "else")) (body_at c.args.room) (tt, tt) (c.in_ok-next_row.ensures.gives (mark-row (codes "else"))) c.in_err-second.ensures.gives))

pub read_end-returns-in_err-cond-clause-gives : goal.read_end-returns-in_err-cond-clause-gives
read_end-returns-in_err-cond-clause-gives g t c = passed-on end_tree c.in_err-cond.field-0.0 c.from_residual.result _ _ (end_at c.args.room (body_at c.args.room)) c.from_residual.ensures.1
    (end-first c.args.room (body_at c.args.room) _ _ end_row_tree end_tree c.in_err-cond.field-0.0 (c.in_err-cond.ensures.gives (end-row c.args.room (small-bound c.args.room))))

pub read_end-returns-in_err-first-in-If-clause-gives : goal.read_end-returns-in_err-first-in-If-clause-gives
read_end-returns-in_err-first-in-If-clause-gives g t c = passed-on end_tree c.in_err-first-in-If.field-0.0 c.from_residual-in_err-first-in-If.result _ _ (end_at c.args.room (body_at c.args.room)) c.from_residual-in_err-first-in-If.ensures.1
    (end-second c.args.room (body_at c.args.room) _ _ (λ (x : BodyTree). x) end_tree c.in_err-first-in-If.field-0.0 _ (If (cond_tree c.in-If.cond)) (row-was c.args.room _ _ c.in_ok-cond.field-0 (row.If c.in-If.cond) c.in-If.is (c.in_ok-cond.ensures.gives (end-row c.args.room (small-bound c.args.room))))
    (err-made three (λ (x : BodyTree). x) (λ (x : Three). Branch (cond_tree c.in-If.cond) x.0 x.1.1) c.in_err-first-in-If.field-0.0 _ _ _ c.in_err-first-in-If.ensures.gives))

pub read_end-returns-in_err-arms-in-Call-clause-gives : goal.read_end-returns-in_err-arms-in-Call-clause-gives
read_end-returns-in_err-arms-in-Call-clause-gives g t c = passed-on end_tree c.in_err-arms-in-Call.field-0.0 c.from_residual-in_err-arms-in-Call.result _ _ (end_at c.args.room (body_at c.args.room)) c.from_residual-in_err-arms-in-Call.ensures.1
    (end-second c.args.room (body_at c.args.room) _ _ (λ (x : BodyTree). x) end_tree c.in_err-arms-in-Call.field-0.0 _ (CallOf c.in-Call.def c.in-Call.count (values_tree c.in-Call.values)) (row-was c.args.room _ _ c.in_ok-cond.field-0 (row.Call c.in-Call.def c.in-Call.count c.in-Call.values) c.in-Call.is (c.in_ok-cond.ensures.gives (end-row c.args.room (small-bound c.args.room))))
    (err-made (λ (arms : Items Body). map body_tree arms) (λ (x : BodyTree). x) (λ (arms : Items BodyTree). Call c.in-Call.def (values_tree c.in-Call.values) (arms_of arms)) c.in_err-arms-in-Call.field-0.0 _ _ _ c.in_err-arms-in-Call.ensures.gives))

pub read_end-returns-in_ok-new-in-If-2-clause-gives : goal.read_end-returns-in_ok-new-in-If-2-clause-gives
read_end-returns-in_ok-new-in-If-2-clause-gives g t c = end-is c.args.room (body_at c.args.room) _ _ _ (If (cond_tree c.in-If.cond)) (Branch (cond_tree c.in-If.cond) (body_tree c.in_ok-first-in-If.first) (body_tree c.in_ok-first-in-If.second)) _
    (view_branch c.in-If.cond c.in_ok-new-in-If.field-0 c.in_ok-new-in-If-2.field-0 ∙ (λ i. Branch (cond_tree c.in-If.cond) (body_tree (c.in_ok-new-in-If.ensures.ok i)) (body_tree (c.in_ok-new-in-If-2.ensures.ok i))))
    (row-was c.args.room _ _ c.in_ok-cond.field-0 (row.If c.in-If.cond) c.in-If.is (c.in_ok-cond.ensures.gives (end-row c.args.room (small-bound c.args.room))))
    (ok-made (λ (x : Three). Branch (cond_tree c.in-If.cond) x.0 x.1.1) _ _ _ (three (c.in_ok-first-in-If.first, c.in_ok-first-in-If.second)) c.in_ok-first-in-If.ensures.gives)

pub read_end-returns-in_ok-arms-in-Call-clause-gives : goal.read_end-returns-in_ok-arms-in-Call-clause-gives
read_end-returns-in_ok-arms-in-Call-clause-gives g t c = end-is c.args.room (body_at c.args.room) _ _ _ (CallOf c.in-Call.def c.in-Call.count (values_tree c.in-Call.values)) _ _ (view_call c.in-Call.def c.in-Call.values c.in_ok-arms-in-Call.arms)
    (row-was c.args.room _ _ c.in_ok-cond.field-0 (row.Call c.in-Call.def c.in-Call.count c.in-Call.values) c.in-Call.is (c.in_ok-cond.ensures.gives (end-row c.args.room (small-bound c.args.room))))
    (ok-made (λ (arms : Items BodyTree). Call c.in-Call.def (values_tree c.in-Call.values) (arms_of arms)) _ _ _ (map body_tree c.in_ok-arms-in-Call.arms) c.in_ok-arms-in-Call.ensures.gives)

pub read_end-returns-in-Again-clause-gives : goal.read_end-returns-in-Again-clause-gives
read_end-returns-in-Again-clause-gives g t c = end-is c.args.room (body_at c.args.room) _ _ _ (AgainWith (values_tree c.in-Again.values)) _ _ (view_again c.in-Again.values)
    (row-was c.args.room _ _ c.in_ok-cond.field-0 (row.Again c.in-Again.values) c.in-Again.is (c.in_ok-cond.ensures.gives (end-row c.args.room (small-bound c.args.room)))) (no-more _ _)

pub read_end-returns-in-Leave-clause-gives : goal.read_end-returns-in-Leave-clause-gives
read_end-returns-in-Leave-clause-gives g t c = end-is c.args.room (body_at c.args.room) _ _ _ (LeaveBy c.in-Leave.exit (values_tree c.in-Leave.values)) _ _ (view_leave c.in-Leave.exit c.in-Leave.values)
    (row-was c.args.room _ _ c.in_ok-cond.field-0 (row.Leave c.in-Leave.exit c.in-Leave.values) c.in-Leave.is (c.in_ok-cond.ensures.gives (end-row c.args.room (small-bound c.args.room)))) (no-more _ _)

pub read_end-returns-in_err-new-in-If-clause-lends : goal.read_end-returns-in_err-new-in-If-clause-lends
read_end-returns-in_err-new-in-If-clause-lends g t c = lends-on g.R.Rows.Lends halt.NoMemory c.from_residual-in_err-new-in-If.result _ _ _ _ c.from_residual-in_err-new-in-If.ensures.1 (g.met.R.Rows.lends_full _ _ _ _ (g.met.R.Rows.lends_then _ _ _ _ _ _ _ c.in_ok-cond.ensures.lends c.in_ok-first-in-If.ensures.lends))

pub read_end-returns-in_err-new-in-If-2-clause-lends : goal.read_end-returns-in_err-new-in-If-2-clause-lends
read_end-returns-in_err-new-in-If-2-clause-lends g t c = lends-on g.R.Rows.Lends halt.NoMemory c.from_residual-in_err-new-in-If-2.result _ _ _ _ c.from_residual-in_err-new-in-If-2.ensures.1 (g.met.R.Rows.lends_full _ _ _ _ (g.met.R.Rows.lends_then _ _ _ _ _ _ _ c.in_ok-cond.ensures.lends c.in_ok-first-in-If.ensures.lends))

pub read_end-returns-in_ok-new-in-If-2-clause-lends : goal.read_end-returns-in_ok-new-in-If-2-clause-lends
read_end-returns-in_ok-new-in-If-2-clause-lends g t c = g.met.R.Rows.lends_then _ _ _ _ _ _ _ c.in_ok-cond.ensures.lends c.in_ok-first-in-If.ensures.lends
