use Rattle.std.proofs.Common.{arith, subst}
use Rattle.rv_machine.specs.State.{Contents, IsState, state_of}
use Rattle.rv_machine.proofs.StateLemmas.{contents-state}
use Rattle.rv_machine.proofs.state.State.law_of_values.Goals as goal

pub returns : goal.returns
returns c =
    subst (λ (x : Contents). IsState (state_of x)) c.self.view_is
    (contents-state (record { pc = c.self.inside.pc; registers = c.self.inside.registers; memory = c.self.inside.memory }) (omega arith) c.law_of_values.ensures c.law_of_values-2.ensures)
