use Rattle.std.proofs.Common.{◌≡◌, drop, flat_map}
use Rattle.mc_text.specs.Printing.{Keeps, page, print}
use Rattle.fun_laws.specs.Spelling.{cert_step_tokens}
use Rattle.fun_laws.proofs.put.put_steps.Given as goal

abbrev pub invariant-loop-step : goal.invariant-loop-step
invariant-loop-step l = record {
  told : print (flat_map cert_step_tokens l.steps) (page l.fn.pen) ≡ print (flat_map cert_step_tokens (drop l.step-index l.steps)) (page l.pen);
  kept : Keeps (page l.fn.pen) (page l.pen);
}
