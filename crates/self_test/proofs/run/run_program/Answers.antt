use Rattle.std.proofs.Common.{sym, subst}
use Rattle.rv_machine.specs.State.{state_of}
use Rattle.rv_machine.specs.Run.{EndsIn}
use Rattle.rv_machine.specs.declared.running.RunEnd.TheVariants as end
use Rattle.self_test.specs.Runs.{behind}
use Rattle.self_test.specs.Results.{most_steps}
use Rattle.self_test.proofs.Returned.{no-other}
use Rattle.self_test.proofs.run.run_program.Goals as goal

pub unreachable-requires : goal.unreachable-requires
unreachable-requires c =
    no-other c.args.number c.args.size (state_of c.run.new.self) c.run.result c.requires.size
    (subst (λ s. EndsIn behind most_steps s (state_of c.run.new.self) c.run.result) c.in_ok-state.ensures c.run.ensures) c.in-Stuck.is

pub returns : goal.returns
returns c = record {
  last = state_of c.run.new.self;
  met = subst (λ s. EndsIn behind most_steps s (state_of c.run.new.self) (end.Met c.in-Met.steps)) c.in_ok-state.ensures c.in-Met.ensures;
  value = sym c.reg.ensures;
}
