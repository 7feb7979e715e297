use Rattle.std.proofs.Common.{take}
use Rattle.fun_laws.specs.inner.Numbers.{HaveNumbers}
use Rattle.fun_laws.proofs.laws.have_numbers.Given as goal

abbrev pub invariant-loop-step : goal.invariant-loop-step
invariant-loop-step l = HaveNumbers (take l.step-index l.steps)
