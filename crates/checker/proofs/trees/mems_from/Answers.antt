use Rattle.word_terms.specs.Tree.{mem_tree}
use Rattle.term_arena.specs.Arena.{OfMem, mem_of}
use Rattle.held_terms.proofs.PutSteps.{steps_next, steps_within}
use Rattle.checker.proofs.TreesLemmas.{place_left, place_pushed}
use Rattle.checker.proofs.trees.mems_from.Goals as goal

pub loop-mem-preserved : goal.loop-mem-preserved
loop-mem-preserved g c = record {
  read = place_pushed mem_tree (mem_of c.args.arena.now) c.loop-mem.trees _ c.in_ok-tree.tree c.in_ok-push.ensures.ok c.args.mems.now c.loop-mem.mem-index c.loop-mem-test.true c.loop-mem.invariant.read _ c.in_ok-tree.ensures.tree;
  few = steps_next c.args.steps.now c.loop-mem.steps c.mem_from.new.steps _ _ _ _ c.loop-mem.invariant.few (place_left (mem_of c.args.arena.now) c.args.mems.now c.loop-mem.mem-index _ c.loop-mem-test.true OfMem) c.mem_from.ensures.steps;
}

pub returns-in_err-tree-clause-steps : goal.returns-in_err-tree-clause-steps
returns-in_err-tree-clause-steps g c =
    steps_within c.args.steps.now c.mem_from.new.steps _ _ (steps_next c.args.steps.now c.loop-mem.steps c.mem_from.new.steps _ _ _ _ c.loop-mem.invariant.few (place_left (mem_of c.args.arena.now) c.args.mems.now c.loop-mem.mem-index _ c.loop-mem-test.true OfMem) c.mem_from.ensures.steps)

pub returns-in_err-push-clause-steps : goal.returns-in_err-push-clause-steps
returns-in_err-push-clause-steps g c =
    steps_within c.args.steps.now c.mem_from.new.steps _ _ (steps_next c.args.steps.now c.loop-mem.steps c.mem_from.new.steps _ _ _ _ c.loop-mem.invariant.few (place_left (mem_of c.args.arena.now) c.args.mems.now c.loop-mem.mem-index _ c.loop-mem-test.true OfMem) c.mem_from.ensures.steps)
