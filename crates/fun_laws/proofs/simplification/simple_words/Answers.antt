use Rattle.word_terms.specs.Tree.{word_tree}
use Rattle.fun_laws.specs.Laws.{OfWord}
use Rattle.fun_laws.specs.Simple.{IsSimple}
use Rattle.fun_laws.specs.inner.Simplified.{word_parts}
use Rattle.fun_laws.proofs.PartSteps.{word_item}
use Rattle.fun_laws.proofs.SimpleBodies.{items_more}
use Rattle.fun_laws.proofs.simplification.simple_words.Goals as goal

pub loop-t-preserved : goal.loop-t-preserved
loop-t-preserved c =
    items_more word_parts (λ x. IsSimple (OfWord x)) word_tree c.args.words.now c.loop-t.made _ c.loop-t.t-index c.t-item.result c.in_ok-u.u c.args.log.now c.loop-t.log _ _
    c.loop-t-test.true c.t-item.is c.in_ok-push.ensures.ok (word_item _ _ _ _ c.in_ok-u.ensures.noted) c.in_ok-next_term.ensures c.in_ok-u.ensures.simple c.loop-t.invariant
