use Rattle.std.proofs.Common.{arith}
use Rattle.loop_forest.specs.Forest.{has_inside}
use Rattle.loop_forest.proofs.Depths.{count-most}
use Rattle.loop_forest.proofs.forest.Forest.loops_around.Goals as goal

pub overflow_add-count : goal.overflow_add-count
overflow_add-count c = omega (arith, count-most (has_inside c.args.self.now c.args.n) c.loop-l.l, c.loop-l.invariant, c.loop-l-test.true, c.loops-l-end.type_inv)

pub returns-clause-most : goal.returns-clause-most
returns-clause-most c = omega (arith, count-most (has_inside c.args.self.now c.args.n) c.loop-l.l, c.loop-l.invariant, c.loop-l.auto.l-end, c.loops-l-end.ensures)
