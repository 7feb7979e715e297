use Rattle.std.proofs.Common.{sym, ◌∙◌, arith}
use Rattle.rvc.proofs.TableLemmas.{expanded-Expands}
use Rattle.rvc.proofs.expansion.expand.Goals as goal

pub returns-clause-exactly : goal.returns-clause-exactly
returns-clause-exactly c =
    λ w. let law = expanded-Expands c.args.h w (omega arith) in
    (λ e. law.0 (sym c.expand_number.ensures ∙ e), λ x. c.expand_number.ensures ∙ law.1 x)
