use Rattle.std.proofs.Common.{arith, ap, ◌∙◌, Some, eq-eqb}
use Rattle.code_parts.proofs.BuiltBodies.{index_found, index_missing}
use Rattle.code_parts.proofs.ends.index_of.Goals as goal

pub returns-then-n-x-clause-is : goal.returns-then-n-x-clause-is
returns-then-n-x-clause-is c = ap Some c.loop-x.invariant.count ∙ index_found c.args.nodes.now c.args.n c.loop-x.x-index c.loop-x-test.true c.loop-x.invariant.missing (eq-eqb _ _ c.if-n-x.true)

pub returns-clause-is : goal.returns-clause-is
returns-clause-is c = index_missing c.args.nodes.now c.args.n c.loop-x.x-index (omega (arith, c.loop-x-test.false, c.loop-x.auto.x-index-end)) c.loop-x.invariant.missing
