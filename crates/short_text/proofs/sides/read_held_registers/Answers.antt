use Rattle.std.proofs.Common.{ℕ, ap, sym, ◌∙◌, List as Items}
use Rattle.mc_text.specs.Reading.{star, is_open}
use Rattle.mc_text.specs.inner.Reading.{with_prefix}
use Rattle.mc_text.specs.Scanning.{tokens_at}
use Rattle.mc_text.proofs.Star.{star-more, star-ends}
use Rattle.mc_text.proofs.StarReads.{star-stopped}
use Rattle.short_text.specs.inner.ShortReading.{held_register_at}
use Rattle.short_text.proofs.HeldLaws.{held-register-shrinks}
use Rattle.short_text.proofs.sides.read_held_registers.Goals as goal

pub regs-smaller : goal.regs-smaller
regs-smaller c = held-register-shrinks c.args.table.now _ _ _ c.in-Ok.ensures.gives

pub regs-preserved : goal.regs-preserved
regs-preserved c = record {
  told = ap (λ (front : Items (ℕ × ℕ)). with_prefix front (star is_open (held_register_at c.args.table.now) (tokens_at c.read_held_register.new.scan))) c.in_ok-push-in-Ok.ensures.ok
      ∙ star-more is_open (held_register_at c.args.table.now) (held-register-shrinks c.args.table.now) c.regs.regs _ _ _ _ (sym c.regs-test.ensures) c.in-Ok.ensures.gives c.regs.invariant.told;
  last = c.in-Ok.ensures.last ∙ c.regs.invariant.last;
}

pub returns-in-Err-clause-gives : goal.returns-in-Err-clause-gives
returns-in-Err-clause-gives c = star-stopped (λ (x : (ℕ × ℕ)). x) (λ (xs : Items (ℕ × ℕ)). xs) is_open (held_register_at c.args.table.now) (held-register-shrinks c.args.table.now) c.in-Err.stop c.regs.regs c.args.scan.now c.regs.scan c.read_held_register.new.scan (sym c.regs-test.ensures) c.in-Err.ensures.gives c.regs.invariant.told

pub returns-clause-gives : goal.returns-clause-gives
returns-clause-gives c = star-ends is_open (held_register_at c.args.table.now) (held-register-shrinks c.args.table.now) c.regs.regs _ _ (sym c.regs-test.ensures) c.regs.invariant.told
