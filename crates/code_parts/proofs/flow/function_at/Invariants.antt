use Rattle.std.proofs.Common.{◌≡◌, drop}
use Rattle.code_parts.specs.Flows.{function_at}
use Rattle.code_parts.proofs.flow.function_at.Given as goal

abbrev pub invariant-loop-f : goal.invariant-loop-f
invariant-loop-f l = function_at l.functions l.a ≡ function_at (drop l.f-index l.functions) l.a
