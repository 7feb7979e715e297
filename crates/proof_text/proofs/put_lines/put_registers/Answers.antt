use Rattle.mc_text.specs.Printing.{page}
use Rattle.mc_text.proofs.Printed.{keeps_more, print_next, print_over_map}
use Rattle.sep_assert.specs.Tree.{register_tree}
use Rattle.proof_text.specs.LineSpelling.{register_tokens}
use Rattle.proof_text.proofs.put_lines.put_registers.Goals as goal

pub loop-register-preserved : goal.loop-register-preserved
loop-register-preserved c = record {
  told = print_next (λ t. register_tokens (register_tree t)) c.args.registers.now c.loop-register.register-index c.register-item.result _ _ _ c.loop-register-test.true c.register-item.is c.loop-register.invariant.told c.in_ok-put_register.ensures.ok;
  kept = keeps_more _ (page c.loop-register.pen) _ c.loop-register.invariant.kept c.put_register.ensures.kept;
}

pub returns-clause-ok : goal.returns-clause-ok
returns-clause-ok c = print_over_map register_tokens register_tree c.args.registers.now c.loop-register.register-index _ _ c.loop-register-test.false c.loop-register.invariant.told
