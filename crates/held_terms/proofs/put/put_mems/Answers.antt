use Rattle.term_arena.specs.Arena.{IsMemAt, mem_of, OfMem}
use Rattle.word_terms.specs.Tree.{mem_tree}
use Rattle.held_terms.proofs.GrowthLemmas.{extends_next}
use Rattle.held_terms.specs.Terms.{tree_nodes}
use Rattle.held_terms.proofs.PutLemmas.{mems_stay, put_next}
use Rattle.held_terms.proofs.PutOrder.{item-then}
use Rattle.held_terms.proofs.PutSteps.{item_left, steps_next, steps_within}
use Rattle.held_terms.proofs.put.put_mems.Goals as goal

pub loop-mem-preserved : goal.loop-mem-preserved
loop-mem-preserved g c =
    let xs = c.args.mems.now in
    let i = c.loop-mem.mem-index in
    let before = c.loop-mem.arena in
    let now = c.put_mem.new.arena in
    record {
      grows = extends_next c.args.arena.now before now c.loop-mem.invariant.grows c.put_mem.ensures.grows;
      put = put_next (IsMemAt now) (mem_of now) mem_tree c.loop-mem.numbers _ xs i c.mem-item.result c.in_ok-k.k c.loop-mem-test.true c.mem-item.is c.in_ok-push.ensures.ok
          (mems_stay before now c.put_mem.ensures.grows c.loop-mem.numbers _ c.loop-mem.invariant.put) c.in_ok-k.ensures.put;
      order = item-then mem_tree OfMem c.args.arena.now xs i c.mem-item.result before now c.loop-mem-test.true c.mem-item.is c.loop-mem.invariant.order c.in_ok-k.ensures.order;
      few = steps_next c.args.steps.now c.loop-mem.steps c.put_mem.new.steps (tree_nodes (OfMem (mem_tree c.mem-item.result))) _ _ _ c.loop-mem.invariant.few (item_left mem_tree c.args.mems.now c.loop-mem.mem-index c.mem-item.result c.loop-mem-test.true c.mem-item.is OfMem) c.put_mem.ensures.steps;
    }

pub returns-in_err-k-clause-steps : goal.returns-in_err-k-clause-steps
returns-in_err-k-clause-steps g c =
    steps_within c.args.steps.now c.put_mem.new.steps _ _
    (steps_next c.args.steps.now c.loop-mem.steps c.put_mem.new.steps (tree_nodes (OfMem (mem_tree c.mem-item.result))) _ _ _ c.loop-mem.invariant.few (item_left mem_tree c.args.mems.now c.loop-mem.mem-index c.mem-item.result c.loop-mem-test.true c.mem-item.is OfMem) c.put_mem.ensures.steps)

pub returns-in_err-push-clause-steps : goal.returns-in_err-push-clause-steps
returns-in_err-push-clause-steps g c =
    steps_within c.args.steps.now c.put_mem.new.steps _ _
    (steps_next c.args.steps.now c.loop-mem.steps c.put_mem.new.steps (tree_nodes (OfMem (mem_tree c.mem-item.result))) _ _ _ c.loop-mem.invariant.few (item_left mem_tree c.args.mems.now c.loop-mem.mem-index c.mem-item.result c.loop-mem-test.true c.mem-item.is OfMem) c.put_mem.ensures.steps)
