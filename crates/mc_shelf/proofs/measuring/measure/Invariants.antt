use Rattle.std.proofs.Common.{◌≤◌, ◌-◌}
use Rattle.mc_shelf.specs.inner.OnlyReads.{OnlyReads}
use Rattle.mc_shelf.proofs.ReadingLemmas.{ReachesOfName}
use Rattle.mc_shelf.proofs.measuring.measure.Given as goal

-- the file has at least the bytes that were counted
abbrev pub invariant-loop-count : goal.invariant-loop-count
invariant-loop-count g l =
    let s = g.S.Shelf in
    record {
      within : l.size ≤ l.limit;
      reaches : ReachesOfName l.size (s.contents l.fn.shelf) l.fn.name;
      shelf : OnlyReads s.contents s.read_faults s.write_faults s.IsSure ⊥ l.fn.name l.fn.shelf l.shelf;
    }

abbrev pub decreases-loop-count : goal.decreases-loop-count
decreases-loop-count g l = l.limit - l.size
