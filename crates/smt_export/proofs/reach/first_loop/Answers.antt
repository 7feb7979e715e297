use Rattle.std.proofs.Common.{arith}
use Rattle.tailrec_lang.specs.Tree.{group_tree}
use Rattle.smt_export.proofs.Reached.{loops_next, loops_nowhere}
use Rattle.smt_export.proofs.reach.first_loop.Goals as goal

pub loop-d-preserved : goal.loop-d-preserved
loop-d-preserved c = loops_next (group_tree c.args.g.now) c.args.def c.args.marks.now c.loop-d.d _ c.loop-d.invariant c.is_reached_loop.ensures c.if-is_reached_loop.false

pub returns-clause-none : goal.returns-clause-none
returns-clause-none c =
    loops_nowhere (group_tree c.args.g.now) c.args.def c.args.marks.now c.loop-d.d c.requires.well_formed (omega (arith, c.loop-d-test.false)) c.requires.count c.loop-d.invariant
