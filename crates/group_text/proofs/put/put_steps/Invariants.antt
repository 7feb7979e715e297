use Rattle.std.proofs.Common.{◌≡◌, drop, flat_map}
use Rattle.mc_text.specs.Printing.{Keeps, page, print}
use Rattle.tailrec_lang.specs.Tree.{step_tree}
use Rattle.group_text.specs.Spelling.{step_tokens}
use Rattle.group_text.proofs.put.put_steps.Given as goal

abbrev pub invariant-loop-step : goal.invariant-loop-step
invariant-loop-step l = record {
  told : print (flat_map (λ t. step_tokens (step_tree t)) l.steps) (page l.fn.pen) ≡ print (flat_map (λ t. step_tokens (step_tree t)) (drop l.step-index l.steps)) (page l.pen);
  kept : Keeps (page l.fn.pen) (page l.pen);
}
