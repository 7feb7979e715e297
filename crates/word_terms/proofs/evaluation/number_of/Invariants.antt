use Rattle.std.proofs.Common.{◌≡◌, ℕ, ◌+◌, ◌*◌, ◌-◌, ◌<◌}
use Rattle.std.specs.Prelude.{◌%◌, ◌^◌}
use Rattle.rv_words.specs.Bytes.{Bytes, load}
use Rattle.word_terms.specs.inner.Window.{StandFrom}
use Rattle.word_terms.proofs.evaluation.number_of.Given as goal

abbrev pub invariant-loop-i : goal.invariant-loop-i
invariant-loop-i l = record {
  loaded : (m : Bytes) (a : ℕ) → a < 2 ^ 64 → StandFrom m a l.count l.window → l.number ≡ load l.i m ((a + (l.count - l.i)) % 2 ^ 64);
  small : l.number < 2 ^ (8 * l.i);
}
