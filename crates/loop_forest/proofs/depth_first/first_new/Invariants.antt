use Rattle.std.proofs.Common.{◌≡◌, false}
use Rattle.loop_forest.specs.inner.DepthFirst.{mark_of, is_new}
use Rattle.loop_forest.proofs.IteratorLoops.{IsPassed}
use Rattle.loop_forest.proofs.depth_first.first_new.Given as goal

abbrev pub invariant-loop-v : goal.invariant-loop-v
invariant-loop-v l = record {
  can : (goal.iterator-loop-v).can_next l.v-iterator;
  ends : (goal.iterator-loop-v).is_finite l.v-iterator;
  passed : IsPassed l.fn.row l.v-iterator (λ x. is_new (mark_of l.marks x) ≡ false);
}
