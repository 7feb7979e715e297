use Rattle.std.proofs.Common.{◌≡◌, map, take}
use Rattle.std.specs.List.{sum_by}
use Rattle.code_parts.specs.Functions.{size_of}
use Rattle.path_walk.proofs.linked.size_of.Given as goal

abbrev pub invariant-loop-function : goal.invariant-loop-function
invariant-loop-function l = l.size ≡ sum_by size_of (map (λ f. f.function.now) (take l.function-index l.functions))
