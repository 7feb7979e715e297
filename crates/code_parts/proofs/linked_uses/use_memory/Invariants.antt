use Rattle.std.proofs.Common.{◌≡◌, drop}
use Rattle.code_parts.specs.Groups.{load_or_store}
use Rattle.code_parts.proofs.linked_uses.use_memory.Given as goal

abbrev pub invariant-loop-function : goal.invariant-loop-function
invariant-loop-function l = load_or_store l.functions ≡ load_or_store (drop l.function-index l.functions)
