use Rattle.std.proofs.Common.{◌≡◌, take}
use Rattle.std.specs.Prelude.{All}
use Rattle.rv_words.specs.Bytes.{over}
use Rattle.rv_words.specs.Ranges.{range_bytes}
use Rattle.sep_assert.specs.inner.Code.{AreSameAt}
use Rattle.sep_assert.proofs.code.are_found_in.Given as goal

abbrev pub invariant-loop-range : goal.invariant-loop-range
invariant-loop-range l = record {
  same : All (AreSameAt (range_bytes l.a) (over (range_bytes l.b) (range_bytes l.c))) (take l.range-index l.a);
  first : l.in_a ≡ l.a;
  second : l.in_b ≡ l.b;
  third : l.in_c ≡ l.c;
}
