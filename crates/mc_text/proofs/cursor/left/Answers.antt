use Rattle.std.proofs.Common.{refl}
use Rattle.mc_text.specs.Tokens.{Left}
use Rattle.mc_text.proofs.Parentheses.{left-taken, left-refused, passed-last}
use Rattle.mc_text.proofs.cursor.left.Goals as goal

pub returns-then-pass_left-clause-gives : goal.returns-then-pass_left-clause-gives
returns-then-pass_left-clause-gives c = left-taken _ _ (c.if-pass_left.ensures.passes refl)

pub returns-then-pass_left-clause-last : goal.returns-then-pass_left-clause-last
returns-then-pass_left-clause-last c = passed-last Left _ _ (λ e. cc) (c.if-pass_left.ensures.passes refl)

pub returns-else-pass_left-clause-gives : goal.returns-else-pass_left-clause-gives
returns-else-pass_left-clause-gives c = left-refused _ _ (c.if-pass_left.ensures.none refl) (c.if-pass_left.ensures.same refl)
