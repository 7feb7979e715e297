use Rattle.tailrec_lang.specs.Tree.{step_tree}
use Rattle.fun_laws.specs.Simple.{IsSimple}
use Rattle.fun_laws.specs.Rewriting.{step_term}
use Rattle.fun_laws.specs.inner.Simplified.{step_parts}
use Rattle.fun_laws.proofs.PartSteps.{step_item}
use Rattle.fun_laws.proofs.SimpleBodies.{items_more}
use Rattle.fun_laws.proofs.simplification.simple_steps.Goals as goal

pub loop-step-preserved : goal.loop-step-preserved
loop-step-preserved c =
    items_more step_parts (λ x. IsSimple (step_term x)) step_tree c.args.steps.now c.loop-step.made _ c.loop-step.step-index c.step-item.result c.in_ok-s.s c.args.log.now c.loop-step.log _ _
    c.loop-step-test.true c.step-item.is c.in_ok-push.ensures.ok (step_item _ _ _ _ c.in_ok-s.ensures.noted) c.in_ok-next_term.ensures c.in_ok-s.ensures.simple c.loop-step.invariant
