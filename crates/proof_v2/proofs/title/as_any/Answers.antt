use Rattle.std.proofs.Common.{true≢false, sym, ◌∙◌}
use Rattle.proof_v2.proofs.HeldVersions.{as-any-one, as-any-two}
use Rattle.proof_v2.proofs.title.as_any.Goals as goal

pub returns-then-is_short : goal.returns-then-is_short
returns-then-is_short c = λ text is. as-any-two c.args.named text (c.is_short.ensures.0 c.if-is_short.true) is

pub returns-else-is_short : goal.returns-else-is_short
returns-else-is_short c = λ text is. as-any-one c.args.named text (λ two. true≢false (sym (c.is_short.ensures.1 two) ∙ c.if-is_short.false)) is
