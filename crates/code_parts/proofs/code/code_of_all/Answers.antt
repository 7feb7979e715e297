use Rattle.std.proofs.Common.{sym, subst}
use Rattle.std.specs.List.{Contains}
use Rattle.code_parts.proofs.Joining.{joined-more, joins}
use Rattle.code_parts.proofs.ListItems.{contained}
use Rattle.code_parts.proofs.code.code_of_all.Goals as goal

pub with_graph-requires-clause-agree : goal.with_graph-requires-clause-agree
with_graph-requires-clause-agree c =
    joins c.args.functions.now c.requires c.loop-function.function-index c.loop-function.code.ranges c.loop-function.invariant c.function-item.result
    (subst (Contains c.args.functions.now) (sym c.function-item.is) (contained c.args.functions.now c.loop-function.function-index c.function-item.result c.loop-function-test.true))

pub loop-function-preserved : goal.loop-function-preserved
loop-function-preserved c =
    joined-more c.args.functions.now c.requires c.loop-function.function-index c.loop-function.code.ranges c.in_ok-code.code.ranges c.function-item.result c.function-item.result c.loop-function-test.true c.function-item.is
    c.loop-function.invariant c.in_ok-code.ensures
