use Rattle.std.proofs.Common.{ap, ◌∙◌}
use Rattle.std.specs.Ordering.{nat_cmp}
use Rattle.std.specs.FinMap.{get, get-empty}
use Rattle.mcdec_commands.specs.Memory.{placed}
use Rattle.mcdec_commands.proofs.memory.memory_of.Goals as goal

pub returns : goal.returns
returns c = c.in_ok-place_each.ensures ∙ c.in_ok-place_rising.ensures ∙ ap (placed c.args.ranges.now) (ap get c.new-memory.ensures ∙ (λ i a. get-empty nat_cmp a i))
