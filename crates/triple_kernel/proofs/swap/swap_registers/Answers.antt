use Rattle.std.proofs.Common.{map, arith}
use Rattle.sep_assert.specs.Tree.{register_tree}
use Rattle.triple_kernel.specs.Tree.{fact_tree}
use Rattle.triple_kernel.specs.Swap.{SwapRegister}
use Rattle.triple_kernel.proofs.Zips.{zip-at, zip-more}
use Rattle.triple_kernel.proofs.swap.swap_registers.Goals as goal

pub returns-then-not-swap_register : goal.returns-then-not-swap_register
returns-then-not-swap_register c = (
  λ e. absurd (cc),
  λ all.
      let here = zip-at register_tree (SwapRegister (map fact_tree c.args.facts.now)) c.args.a.now c.args.b.now c.loop-i.i c.index-a-i.result c.index-b-i.result
      c.loop-i-test.true c.index-a-i.is c.index-b-i.is (omega (arith, c.loop-i-test.true, c.if-a-b.false)) all in
      let yes = c.swap_register.ensures.1 here in
      absurd (cc),
)

pub loop-i-preserved : goal.loop-i-preserved
loop-i-preserved c =
    zip-more register_tree (SwapRegister (map fact_tree c.args.facts.now)) c.args.a.now c.args.b.now c.loop-i.i c.index-a-i.result c.index-b-i.result
    c.loop-i-test.true c.index-a-i.is c.index-b-i.is (omega (arith, c.loop-i-test.true, c.if-a-b.false)) c.loop-i.invariant (c.swap_register.ensures.0 c.if-not-swap_register.false)
