use Rattle.std.proofs.Common.{ℕ, ◌∙◌, ap, Option, unwrap_or}
use Rattle.std.specs.FinMap.{get}
use Rattle.mcdec_commands.proofs.SetUp.{held-more}
use Rattle.mcdec_commands.proofs.memory.range_now.Goals as goal

pub loop-k-preserved : goal.loop-k-preserved
loop-k-preserved c =
    held-more (get c.args.memory.now) c.args.range.now.at c.loop-k.k c.loop-k.bytes c.push.new.self c.unwrap_or.result c.loop-k.invariant
    (c.unwrap_or.ensures ∙ ap (λ (o : Option ℕ). unwrap_or o 0) c.byte-byte.ensures) c.in_ok-push.ensures.ok
