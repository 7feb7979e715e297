use Rattle.std.proofs.Common.{◌≡◌, ℕ, ◌+◌, ◌<◌}
use Rattle.rv_words.specs.Bytes.{over}
use Rattle.rv_words.specs.Ranges.{range_bytes}
use Rattle.sep_assert.proofs.code.are_bytes_at.Given as goal

abbrev pub invariant-loop-i : goal.invariant-loop-i
invariant-loop-i l = record {
  same : (k : ℕ) → k < l.i → range_bytes l.initial.a (l.range.at + k) ≡ over (range_bytes l.initial.b) (range_bytes l.initial.c) (l.range.at + k);
  first : l.a ≡ l.initial.a;
  second : l.b ≡ l.initial.b;
  third : l.c ≡ l.initial.c;
}
