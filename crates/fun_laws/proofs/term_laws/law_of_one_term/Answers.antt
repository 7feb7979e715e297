use Rattle.fun_laws.proofs.OneTerm.{function_number, one_rewritten}
use Rattle.fun_laws.proofs.term_laws.law_of_one_term.Goals as goal

pub returns : goal.returns
returns c = λ n law is place t u v f g. one_rewritten law (function_number n law is) place t u v f g
