use Rattle.std.proofs.Common.{◌≡◌, ◌<◌, ◌↔◌, ℕ, IsTrue, false, length, get_or}
use Rattle.stack_offsets.specs.inner.Settling.{IsStackNode, NamesAll}
use Rattle.stack_offsets.proofs.accesses.stack_nodes.Given as goal

abbrev pub invariant-loop-n : goal.invariant-loop-n
invariant-loop-n l = record {
  len : length l.found ≡ l.n;
  each : NamesAll l.g → (k : ℕ) → k < l.n → IsTrue (get_or l.found k false) ↔ IsStackNode l.g k;
}
