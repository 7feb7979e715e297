use Rattle.std.proofs.Common.{◌∙◌}
use Rattle.code_parts.proofs.Placing.{placed-more}
use Rattle.code_parts.proofs.Room.{behind-fits}
use Rattle.code_parts.proofs.places.places_of.Goals as goal

pub behind-next-requires : goal.behind-next-requires
behind-next-requires c =
    behind-fits c.args.functions.now c.requires c.loop-function.function-index c.loop-function.placed_functions c.loop-function.callees c.loop-function.base c.in_ok-one.one c.function-item.result c.loop-function.invariant c.loop-function-test.true
    (c.in_ok-one.ensures.function ∙ c.function-item.is) c.in_ok-one.ensures.parts c.in_ok-one.ensures.base

pub loop-function-preserved : goal.loop-function-preserved
loop-function-preserved c =
    placed-more c.args.functions.now c.loop-function.function-index c.loop-function.placed_functions c.push-in-loop-function.new.self c.loop-function.callees c.push.new.self c.loop-function.base c.behind-next.result c.in_ok-one.one
    c.callee_of.result c.function-item.result c.loop-function.invariant c.loop-function-test.true (c.in_ok-one.ensures.function ∙ c.function-item.is) c.in_ok-one.ensures.parts c.in_ok-one.ensures.base c.behind-next.ensures c.callee_of.ensures
    c.in_ok-push-2.ensures.ok c.in_ok-push.ensures.ok
