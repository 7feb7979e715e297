use Rattle.std.proofs.Common.{◌≡◌, ◌<◌, ◌≤◌, ◌-◌, length, vec_len}
use Rattle.mc_shelf.specs.inner.OnlyReads.{OnlyReads}
use Rattle.mc_shelf.proofs.ReadingLemmas.{IsFrontOfName}
use Rattle.mc_shelf.proofs.reading.read_file.Given as goal

-- the bytes so far are the front of the file, and the shelf is as sure and as faulty as at the start
abbrev pub invariant-loop-bytes : goal.invariant-loop-bytes
invariant-loop-bytes g l =
    let s = g.S.Shelf in
    record {
      full : 0 < vec_len l.buffer;
      length_is : length l.bytes.items ≡ l.at;
      within : l.at ≤ l.limit;
      front : IsFrontOfName l.bytes.items l.at (s.contents l.fn.shelf) l.fn.name;
      shelf : OnlyReads s.contents s.read_faults s.write_faults s.IsSure ⊥ l.fn.name l.fn.shelf l.shelf;
    }

abbrev pub decreases-loop-bytes : goal.decreases-loop-bytes
decreases-loop-bytes g l = l.limit - l.at
