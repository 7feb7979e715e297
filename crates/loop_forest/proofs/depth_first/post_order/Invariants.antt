use Rattle.std.proofs.Common.{◌≡◌, ◌+◌, ◌*◌, length}
use Rattle.std.specs.List.{count_by}
use Rattle.loop_forest.specs.inner.DepthFirst.{Searching, is_new}
use Rattle.loop_forest.proofs.depth_first.post_order.Given as goal

abbrev pub invariant-search : goal.invariant-search
invariant-search l = record {
  searching : Searching l.g l.entry l.marks.items l.path.items l.count;
  total : l.count + length l.path.items + count_by is_new l.marks.items ≡ length l.g.addrs;
}

abbrev pub decreases-search : goal.decreases-search
decreases-search l = 2 * count_by is_new l.marks.items + length l.path.items
