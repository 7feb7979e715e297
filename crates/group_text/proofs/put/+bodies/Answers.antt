use Rattle.std.proofs.Common.{arith, ap, sym, ◌∙◌, ◌≡◌}
use Rattle.std.proofs.lemmas.Grind.{common_steps}
use Rattle.mc_text.specs.Printing.{page, print}
use Rattle.mc_text.proofs.Printed.{prints, keeps_more, print_next, print_over}
use Rattle.group_text.proofs.Printing.{arm_lines, arms_printed, branch_printed, call_printed, again_printed, leave_printed}
use Rattle.group_text.proofs.put.+bodies.Goals as goal

pub put_body_end-returns-in_ok-put_bare_line-in-Branch-clause-ok : goal.put_body_end-returns-in_ok-put_bare_line-in-Branch-clause-ok
put_body_end-returns-in_ok-put_bare_line-in-Branch-clause-ok t c = rw (branch_printed _ _ _ _ c.in-Branch.is) (grind (arith, common_steps, prints))

pub put_body_end-returns-in_ok-put_call_line-in-Call-clause-ok : goal.put_body_end-returns-in_ok-put_call_line-in-Call-clause-ok
put_body_end-returns-in_ok-put_call_line-in-Call-clause-ok t c = rw (call_printed _ _ _ _ c.in-Call.is) (grind (arith, common_steps, prints))

pub put_body_end-returns-in_ok-put_values-in-Again-clause-ok : goal.put_body_end-returns-in_ok-put_values-in-Again-clause-ok
put_body_end-returns-in_ok-put_values-in-Again-clause-ok t c = rw (again_printed _ _ c.in-Again.is) (grind (arith, common_steps, prints))

pub put_body_end-returns-in_ok-put_values-in-Leave-clause-ok : goal.put_body_end-returns-in_ok-put_values-in-Leave-clause-ok
put_body_end-returns-in_ok-put_values-in-Leave-clause-ok t c = rw (leave_printed _ _ _ c.in-Leave.is) (grind (arith, common_steps, prints))

pub put_arms-loop-arm-preserved : goal.put_arms-loop-arm-preserved
put_arms-loop-arm-preserved t c =
    let done : page c.put_body.new.pen ≡ print (arm_lines c.arm-item.result) (page c.loop-arm.pen) = grind (arith, prints, c.in_ok-put_bare_line.ensures.ok, c.in_ok-put_body.ensures.ok) in
    record {
      told = print_next arm_lines c.args.arms.now c.loop-arm.arm-index c.arm-item.result _ _ _ c.loop-arm-test.true c.arm-item.is c.loop-arm.invariant.told done;
      kept = keeps_more _ (page c.loop-arm.pen) _ c.loop-arm.invariant.kept (keeps_more _ (page c.put_bare_line.new.pen) _ c.put_bare_line.ensures.kept c.put_body.ensures.kept);
    }

pub put_arms-returns-clause-ok : goal.put_arms-returns-clause-ok
put_arms-returns-clause-ok t c =
    print_over arm_lines c.args.arms.now c.loop-arm.arm-index _ _ c.loop-arm-test.false c.loop-arm.invariant.told
    ∙ ap (λ ts. print ts (page c.args.pen.now)) (sym (arms_printed c.args.arms.now))
