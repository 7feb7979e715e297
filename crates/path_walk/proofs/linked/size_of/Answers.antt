use Rattle.std.proofs.Common.{◌+◌, arith}
use Rattle.path_walk.proofs.FunctionsInOrder.{size-low, size-more}
use Rattle.path_walk.proofs.linked.size_of.Goals as goal

pub overflow_add-size : goal.overflow_add-size
overflow_add-size c =
    let more = size-more c.args.functions.now c.loop-function.function-index c.function-item.result c.loop-function.size c.len-size.result c.loop-function-test.true c.function-item.is c.loop-function.invariant c.len-size.ensures.len in
    let low = size-low c.args.functions.now (c.loop-function.function-index + 1) in
    omega (arith, more, low, c.requires)

pub loop-function-preserved : goal.loop-function-preserved
loop-function-preserved c = size-more c.args.functions.now c.loop-function.function-index c.function-item.result c.loop-function.size c.len-size.result c.loop-function-test.true c.function-item.is c.loop-function.invariant c.len-size.ensures.len
