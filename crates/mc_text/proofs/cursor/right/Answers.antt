use Rattle.std.proofs.Common.{refl}
use Rattle.mc_text.specs.Tokens.{Right}
use Rattle.mc_text.proofs.Parentheses.{right-taken, right-refused, passed-last}
use Rattle.mc_text.proofs.cursor.right.Goals as goal

pub returns-then-pass_right-clause-gives : goal.returns-then-pass_right-clause-gives
returns-then-pass_right-clause-gives c = right-taken _ _ (c.if-pass_right.ensures.passes refl)

pub returns-then-pass_right-clause-last : goal.returns-then-pass_right-clause-last
returns-then-pass_right-clause-last c = passed-last Right _ _ (λ e. cc) (c.if-pass_right.ensures.passes refl)

pub returns-else-pass_right-clause-gives : goal.returns-else-pass_right-clause-gives
returns-else-pass_right-clause-gives c = right-refused _ _ (c.if-pass_right.ensures.none refl) (c.if-pass_right.ensures.same refl)
