use Rattle.word_terms.specs.Tree.{mem_tree}
use Rattle.fun_laws.specs.Laws.{OfMem}
use Rattle.fun_laws.specs.Simple.{IsSimple}
use Rattle.fun_laws.specs.inner.Simplified.{mem_parts}
use Rattle.fun_laws.proofs.PartSteps.{mem_item}
use Rattle.fun_laws.proofs.SimpleBodies.{items_more}
use Rattle.fun_laws.proofs.simplification.simple_mems.Goals as goal

pub loop-m-preserved : goal.loop-m-preserved
loop-m-preserved c =
    items_more mem_parts (λ x. IsSimple (OfMem x)) mem_tree c.args.mems.now c.loop-m.made _ c.loop-m.m-index c.m-item.result c.in_ok-n.n c.args.log.now c.loop-m.log _ _
    c.loop-m-test.true c.m-item.is c.in_ok-push.ensures.ok (mem_item _ _ _ _ c.in_ok-n.ensures.noted) c.in_ok-next_term.ensures c.in_ok-n.ensures.simple c.loop-m.invariant
