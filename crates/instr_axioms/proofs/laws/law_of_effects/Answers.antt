use Rattle.instr_axioms.proofs.Effects.{act-terms, one_form}
use Rattle.instr_axioms.proofs.laws.law_of_effects.Goals as goal

pub returns-clause-exactly : goal.returns-clause-exactly
returns-clause-exactly c i a k n e s u f t = act-terms a n e s k i u f t

pub returns-clause-one_form : goal.returns-clause-one_form
returns-clause-one_form c = one_form
