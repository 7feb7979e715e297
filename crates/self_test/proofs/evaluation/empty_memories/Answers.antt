use Rattle.std.proofs.Common.{◌∙◌, ap, map}
use Rattle.std.specs.FinMap.{get, get-empty}
use Rattle.std.specs.Ordering.{nat_cmp}
use Rattle.self_test.proofs.Evaluated.{empty-more}
use Rattle.self_test.proofs.evaluation.empty_memories.Goals as goal

pub loop-preserved : goal.loop-preserved
loop-preserved c =
    ap (map get) c.in_ok-push.ensures.ok
    ∙ empty-more c.loop.mems c.loop.counter c.new.result c.loop.invariant (λ a. (λ i. get (c.new.ensures i) a) ∙ get-empty nat_cmp a)
