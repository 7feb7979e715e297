use Rattle.std.proofs.Common.{◌≡◌, Some}
use Rattle.rv_machine.specs.State.{state_of}
use Rattle.rv_machine.specs.Run.{run, Misses}
use Rattle.rv_machine.proofs.state.State.run.Given as goal

abbrev pub invariant-loop-made : goal.invariant-loop-made
invariant-loop-made l = record {
  reached : run (state_of l.initial.self) l.made ≡ Some (state_of l.self);
  misses : Misses l.until (state_of l.initial.self) l.made;
}
