use Rattle.std.proofs.Common.{◌≡◌, ℕ, ◌<◌, ◌≤◌, false, true, count_by, is_some}
use Rattle.stack_offsets.specs.inner.Rows.{both_same, offsets_of}
use Rattle.stack_offsets.proofs.row.Row.keep.Given as goal

abbrev pub invariant-loop-r : goal.invariant-loop-r
invariant-loop-r l = record {
  kept : (q : ℕ) → q < l.r → offsets_of l.self q ≡ both_same (offsets_of l.initial.self q) (offsets_of l.other q);
  left : (q : ℕ) → l.r ≤ q → offsets_of l.self q ≡ offsets_of l.initial.self q;
  same : l.lost ≡ false → l.self ≡ l.initial.self;
  few : count_by is_some l.self.offsets ≤ count_by is_some l.initial.self.offsets;
  less : l.lost ≡ true → count_by is_some l.self.offsets < count_by is_some l.initial.self.offsets;
}
