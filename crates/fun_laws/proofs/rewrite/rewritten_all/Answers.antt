use Rattle.std.proofs.Common.{map}
use Rattle.tailrec_lang.specs.Tree.{def_tree}
use Rattle.fun_laws.specs.inner.Taken.{apart_tree}
use Rattle.fun_laws.proofs.Parts.{got-at}
use Rattle.fun_laws.proofs.StepLemmas.{refused, stopped}
use Rattle.fun_laws.proofs.rewrite.rewritten_all.Goals as goal

pub returns-in-None-clause-err : goal.returns-in-None-clause-err
returns-in-None-clause-err c =
    stopped c.args.steps.now c.loop-i.i c.index-steps-i.result (map def_tree c.args.defs.now) (map apart_tree c.loop-i.parts.items)
    (got-at c.args.steps.now c.loop-i.i c.index-steps-i.result c.loop-i-test.true c.index-steps-i.is)
    (refused c.in_ok-x.field-0 c.index-steps-i.result c.as_slice.result.now c.loop-i.parts.items c.as_slice.ensures.value c.in-None.is c.in_ok-x.ensures.none) c.loop-i.invariant
