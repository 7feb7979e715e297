use Rattle.std.proofs.Common.{map, arith}
use Rattle.word_terms.specs.Tree.{mem_tree}
use Rattle.triple_kernel.specs.Tree.{fact_tree}
use Rattle.triple_kernel.specs.Swap.{SwapMem}
use Rattle.triple_kernel.proofs.Zips.{zip-at, zip-more}
use Rattle.triple_kernel.proofs.swap.swap_mems.Goals as goal

pub returns-then-not-swap_mem : goal.returns-then-not-swap_mem
returns-then-not-swap_mem c = (
  λ e. absurd (cc),
  λ all.
      let here = zip-at mem_tree (SwapMem (map fact_tree c.args.facts.now)) c.args.a.now c.args.b.now c.loop-i.i c.index-a-i.result c.index-b-i.result
      c.loop-i-test.true c.index-a-i.is c.index-b-i.is (omega (arith, c.loop-i-test.true, c.if-a-b.false)) all in
      let yes = c.swap_mem.ensures.1 here in
      absurd (cc),
)

pub loop-i-preserved : goal.loop-i-preserved
loop-i-preserved c =
    zip-more mem_tree (SwapMem (map fact_tree c.args.facts.now)) c.args.a.now c.args.b.now c.loop-i.i c.index-a-i.result c.index-b-i.result
    c.loop-i-test.true c.index-a-i.is c.index-b-i.is (omega (arith, c.loop-i-test.true, c.if-a-b.false)) c.loop-i.invariant (c.swap_mem.ensures.0 c.if-not-swap_mem.false)
