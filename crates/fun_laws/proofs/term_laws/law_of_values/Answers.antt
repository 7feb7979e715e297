use Rattle.fun_laws.proofs.LawLemmas.{sound_number}
use Rattle.fun_laws.proofs.Places.{rewrites-alike}
use Rattle.fun_laws.proofs.term_laws.law_of_values.Goals as goal

pub returns : goal.returns
returns c = λ n law is place t u r. rewrites-alike law (sound_number n law is) place t u r
