use Rattle.mc_text.specs.Printing.{page}
use Rattle.mc_text.proofs.Printed.{keeps_more, print_next_copied, print_over}
use Rattle.short_text.specs.ShortSpelling.{held_register_tokens}
use Rattle.short_text.proofs.put.put_held_registers.Goals as goal

pub loop-register-preserved : goal.loop-register-preserved
loop-register-preserved c = record {
  told = print_next_copied held_register_tokens c.args.registers.now c.loop-register.register-index _ _ _ _ c.loop-register-test.true c.loop-register.invariant.told c.in_ok-put_held_register.ensures.ok;
  kept = keeps_more _ (page c.loop-register.pen) _ c.loop-register.invariant.kept c.put_held_register.ensures.kept;
}

pub returns-clause-ok : goal.returns-clause-ok
returns-clause-ok c = print_over held_register_tokens c.args.registers.now c.loop-register.register-index _ _ c.loop-register-test.false c.loop-register.invariant.told
