use Rattle.std.proofs.Common.{map, ap, ◌∙◌}
use Rattle.tailrec_lang.specs.Tree.{body_tree}
use Rattle.fun_laws.specs.inner.Apart.{skeleton}
use Rattle.fun_laws.specs.inner.Taken.{term_of}
use Rattle.fun_laws.proofs.Takes.{arm_more, blank_pushed}
use Rattle.fun_laws.proofs.apart.+taking.Goals as goal

pub take_arms-loop-arm-preserved : goal.take_arms-loop-arm-preserved
take_arms-loop-arm-preserved t c = (
  ap (map body_tree) c.in_ok-push.ensures.ok
      ∙ blank_pushed body_tree body_tree skeleton c.loop-arm.blanks c.args.arms.now c.loop-arm.arm-index c.arm-item.result c.in_ok-blank.blank c.loop-arm-test.true c.arm-item.is c.in_ok-blank.ensures.skeleton
      c.loop-arm.invariant.0,
  arm_more (map term_of c.args.found.now) (map term_of c.loop-arm.found) _ c.args.arms.now c.loop-arm.arm-index c.arm-item.result c.loop-arm-test.true c.arm-item.is c.in_ok-blank.ensures.terms c.loop-arm.invariant.1,
)
