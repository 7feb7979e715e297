use Rattle.rv_machine.proofs.RegisterLemmas.{same-mem, same-pc, same-possible, same-word, unwritten}
use Rattle.rv_machine.proofs.laws.law_of_registers.Goals as goal

pub returns-clause-unwritten : goal.returns-clause-unwritten
returns-clause-unwritten c = unwritten

pub returns-clause-possible : goal.returns-clause-possible
returns-clause-possible c = same-possible

pub returns-clause-pc : goal.returns-clause-pc
returns-clause-pc c = same-pc

pub returns-clause-word : goal.returns-clause-word
returns-clause-word c = same-word

pub returns-clause-mem : goal.returns-clause-mem
returns-clause-mem c = λ i n. same-mem i
