use Rattle.std.proofs.Common.{length, sym, ap, ◌∙◌, arith, eq-eqb}
use Rattle.loop_forest.specs.Forest.{head_of}
use Rattle.code_parts.specs.Kept.{FlowOf}
use Rattle.code_parts.proofs.Contexts.{index_found, index_missing}
use Rattle.code_parts.proofs.flow.Flow.loop_of.Goals as goal

pub returns-then-head-n-clause-is : goal.returns-then-head-n-clause-is
returns-then-head-n-clause-is c =
    let count = ap (λ (z : FlowOf). length z.forest.heads) c.self.view_is in
    let at = sym (ap (λ (z : FlowOf). head_of z.forest c.loop-l.l) c.self.view_is) ∙ sym c.head.ensures ∙ c.if-head-n.true in
    index_found c.args.self.now.forest.heads c.args.n c.loop-l.l (omega (arith, count, c.loop-l-test.true, c.loops-l-end.ensures)) c.loop-l.invariant (eq-eqb _ _ at)

pub returns-clause-is : goal.returns-clause-is
returns-clause-is c =
    let count = ap (λ (z : FlowOf). length z.forest.heads) c.self.view_is in
    index_missing c.args.self.now.forest.heads c.args.n c.loop-l.l (omega (arith, count, c.loop-l-test.false, c.loop-l.auto.l-end, c.loops-l-end.ensures)) c.loop-l.invariant
