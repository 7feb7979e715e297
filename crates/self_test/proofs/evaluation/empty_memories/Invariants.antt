use Rattle.std.proofs.Common.{◌≡◌, None, map, replicate}
use Rattle.std.specs.FinMap.{get}
use Rattle.self_test.proofs.evaluation.empty_memories.Given as goal

abbrev pub invariant-loop : goal.invariant-loop
invariant-loop l = map get l.mems ≡ replicate l.counter (λ a. None)
