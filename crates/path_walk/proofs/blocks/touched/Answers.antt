use Rattle.std.proofs.Common.{◌≤◌, ℕ, List, length, sym, subst, arith}
use Rattle.rv_decode.proofs.RegisterLemmas.{all_found}
use Rattle.code_parts.specs.Kept.{flow_in}
use Rattle.path_walk.specs.inner.Blocks.{is_touched}
use Rattle.path_walk.proofs.BlockLemmas.{touched-few}
use Rattle.path_walk.proofs.blocks.touched.Goals as goal

pub returns-clause-are : goal.returns-clause-are
returns-clause-are c = all_found (is_touched (flow_in c.args.flow.now) c.args.n c.args.more) c.loop-r.regs c.loop-r.r (omega (arith, c.loop-r-test.false, c.loop-r.auto.r-end)) c.loop-r.invariant

pub returns-clause-few : goal.returns-clause-few
returns-clause-few c =
    subst (λ (rs : List ℕ). length rs ≤ 31)
    (sym (all_found (is_touched (flow_in c.args.flow.now) c.args.n c.args.more) c.loop-r.regs c.loop-r.r (omega (arith, c.loop-r-test.false, c.loop-r.auto.r-end)) c.loop-r.invariant))
    (touched-few (flow_in c.args.flow.now) c.args.n c.args.more)
