use Rattle.std.proofs.Common.{refl, arith}
use Rattle.smt_terms.proofs.Arrays.{bytes_width, bits_width}
use Rattle.smt_terms.proofs.given.has_width.Goals as goal

pub returns-then-width-eq8 : goal.returns-then-width-eq8
returns-then-width-eq8 c = (λ t. bytes_width _ _ (omega arith) c.law_of_values.ensures, λ h. refl)

pub returns : goal.returns
returns c = bits_width _ _ _ (λ e. absurd (omega arith)) c.requires c.is_below.ensures
