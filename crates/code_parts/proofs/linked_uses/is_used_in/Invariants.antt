use Rattle.std.proofs.Common.{◌≡◌, drop}
use Rattle.code_parts.specs.Groups.{is_register_of}
use Rattle.code_parts.proofs.linked_uses.is_used_in.Given as goal

abbrev pub invariant-loop-function : goal.invariant-loop-function
invariant-loop-function l = is_register_of l.functions l.r ≡ is_register_of (drop l.function-index l.functions) l.r
