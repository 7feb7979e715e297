use Rattle.std.proofs.Common.{◌≡◌, ◌+◌, ◌++◌, List, drop, length, map, refl, sym, subst, arith}
use Rattle.std.proofs.lemmas.Bool.Decides.{nat_tests}
use Rattle.word_terms.specs.Tree.{cond_tree}
use Rattle.tailrec_lang.specs.declared.group.Body.{Body}
use Rattle.tailrec_lang.specs.Tree.{arms_of, body_tree, values_tree}
use Rattle.tailrec_lang.specs.inner.Tree.{arm_trees}
use Rattle.fun_laws.specs.Rewriting.{arm_term_count, count}
use Rattle.fun_laws.specs.inner.Simplified.{ArePassed, AreSimpleArms, arm_parts, body_parts}
use Rattle.fun_laws.proofs.PartSteps.{arms_ended, arms_more}
use Rattle.fun_laws.proofs.Ends.{again_simplified, body_simplified, branch_simplified, call_simplified, leave_simplified}
use Rattle.fun_laws.proofs.SimpleBodies.{arms_simple_more}
use Rattle.fun_laws.proofs.simplification.+simplifying.Goals as goal

pub simple_arms-loop-arm-preserved : goal.simple_arms-loop-arm-preserved
simple_arms-loop-arm-preserved t c =
    let arms = c.args.arms.now in
    let i = c.loop-arm.arm-index in
    let more = c.in_ok-push.ensures.ok in (
      subst
          (λ (zs : List Body).
          ArePassed arm_parts (arm_term_count (arm_trees zs)) c.args.log.now c.simple_body.new.log (arm_trees arms) (arms_of (map body_tree zs ++ map body_tree (drop (i + 1) arms))))
          (sym more)
          (arms_more body_tree arms c.loop-arm.made i c.arm-item.result c.in_ok-b.b c.args.log.now c.loop-arm.log c.simple_body.new.log c.loop-arm-test.true c.arm-item.is c.loop-arm.invariant.0 c.in_ok-b.ensures.passed),
      subst (λ (zs : List Body). AreSimpleArms (arm_trees zs)) (sym more) (arms_simple_more body_tree c.loop-arm.made c.in_ok-b.b c.loop-arm.invariant.1 c.in_ok-b.ensures.simple),
    )

pub simple_arms-returns-clause-passed : goal.simple_arms-returns-clause-passed
simple_arms-returns-clause-passed t c =
    let end : c.loop-arm.arm-index ≡ length c.args.arms.now = grind (arith, nat_tests, c.loop-arm.auto.arm-index-end, c.loop-arm-test.false) in
    arms_ended body_tree c.args.arms.now c.loop-arm.made c.loop-arm.arm-index c.args.log.now c.loop-arm.log end c.loop-arm.invariant.0

pub simple_body-returns-clause-passed : goal.simple_body-returns-clause-passed
simple_body-returns-clause-passed t c =
    body_simplified c.args.body.now _ c.as_slice.result.now c.args.log.now c.simple_steps.new.log c.simple_end.new.log c.as_slice.ensures c.in_ok-steps.ensures.passed c.in_ok-end.ensures.passed

pub simple_end-returns-in_ok-e-in-Branch-clause-passed : goal.simple_end-returns-in_ok-e-in-Branch-clause-passed
simple_end-returns-in_ok-e-in-Branch-clause-passed t c =
    let x = body_tree c.in_ok-x-in-Branch.x in
    let y = body_tree c.in_ok-y-in-Branch.y in
    branch_simplified c.args.end.now c.in-Branch.c c.in-Branch.a c.in-Branch.b (cond_tree c.in_ok-d-in-Branch.d) x y _ c.args.log.now c.simple_cond.new.log c.next_term.new.log
    c.simple_body.new.log c.simple_body-in-Branch.new.log c.in-Branch.is c.in_ok-d-in-Branch.ensures.noted c.in_ok-next_term-in-Branch.ensures
    (subst (λ (b : Body). ArePassed body_parts (count (body_tree b)) c.next_term.new.log c.simple_body.new.log (body_tree b) x) c.deref.ensures c.in_ok-x-in-Branch.ensures.passed)
    (subst (λ (b : Body). ArePassed body_parts (count (body_tree b)) c.simple_body.new.log c.simple_body-in-Branch.new.log (body_tree b) y) c.deref-in-Branch.ensures c.in_ok-y-in-Branch.ensures.passed)
    c.in_ok-e-in-Branch.ensures

pub simple_end-returns-in_ok-bs-in-Call-clause-passed : goal.simple_end-returns-in_ok-bs-in-Call-clause-passed
simple_end-returns-in_ok-bs-in-Call-clause-passed t c =
    call_simplified c.args.end.now c.in-Call.def c.in-Call.values c.in-Call.arms c.as_slice.result.now (values_tree c.in_ok-v-in-Call.v) (arm_trees c.in_ok-bs-in-Call.bs) _
    c.args.log.now c.simple_values.new.log c.simple_arms.new.log c.in-Call.is c.as_slice.ensures c.in_ok-v-in-Call.ensures.passed c.in_ok-bs-in-Call.ensures.passed c.made_call-e.ensures

pub simple_end-returns-in_ok-v-in-Again-clause-passed : goal.simple_end-returns-in_ok-v-in-Again-clause-passed
simple_end-returns-in_ok-v-in-Again-clause-passed t c =
    again_simplified c.args.end.now _ c.in-Again.values c.in_ok-v-in-Again.v c.args.log.now c.simple_values-in-Again.new.log c.in-Again.is refl c.in_ok-v-in-Again.ensures.passed

pub simple_end-returns-in_ok-v-in-Leave-clause-passed : goal.simple_end-returns-in_ok-v-in-Leave-clause-passed
simple_end-returns-in_ok-v-in-Leave-clause-passed t c =
    leave_simplified c.args.end.now _ c.in-Leave.exit c.in-Leave.values c.in_ok-v-in-Leave.v c.args.log.now c.simple_values-in-Leave.new.log c.in-Leave.is refl c.in_ok-v-in-Leave.ensures.passed
