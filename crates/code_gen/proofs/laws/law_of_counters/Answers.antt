use Rattle.code_gen.proofs.CounterLemmas.{code-keeps}
use Rattle.code_gen.proofs.laws.law_of_counters.Goals as goal

pub returns : goal.returns
returns c = code-keeps
