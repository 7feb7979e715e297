use Rattle.std.proofs.Common.{◌≡◌, map, rules, arith}
use Rattle.tailrec_lang.specs.Tree.{step_tree}
use Rattle.group_terms.proofs.Bodies.{body_made}
use Rattle.group_terms.proofs.SameBodies.{arms_counted, bodies_same}
use Rattle.group_terms.proofs.same.+sames.Goals as goal

pub same_arms-returns-then-a-b : goal.same_arms-returns-then-a-b
same_arms-returns-then-a-b t c = (λ h. absurd (cc), λ e. let n = arms_counted c.args.a.now c.args.b.now e in let apart = c.if-a-b.true in absurd (omega (arith, n, apart)))

pub same_body-returns-then-same_steps : goal.same_body-returns-then-same_steps
same_body-returns-then-same_steps t c =
    let same : map step_tree c.args.a.now.steps ≡ map step_tree c.args.b.now.steps = search rules in (
      λ h. body_made c.args.a.now c.args.b.now same (c.same_end.ensures.0 h),
      λ e. c.same_end.ensures.1 (bodies_same c.args.a.now c.args.b.now c.no_step.ensures c.no_step-2.ensures e).1,
    )
