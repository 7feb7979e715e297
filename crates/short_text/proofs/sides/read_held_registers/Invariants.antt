use Rattle.std.proofs.Common.{◌≡◌, length}
use Rattle.mc_text.specs.Reading.{star, is_open}
use Rattle.mc_text.specs.inner.Reading.{with_prefix}
use Rattle.mc_text.specs.Scanning.{tokens_at}
use Rattle.mc_text.specs.Outcome.{last_line}
use Rattle.short_text.specs.inner.ShortReading.{held_register_at}
use Rattle.short_text.proofs.sides.read_held_registers.Given as goal

-- what was read, in front of what is left to read, is what all is read as
abbrev pub invariant-regs : goal.invariant-regs
invariant-regs l = record {
  told : with_prefix l.regs (star is_open (held_register_at l.table) (tokens_at l.scan)) ≡ star is_open (held_register_at l.table) (tokens_at l.fn.scan);
  last : last_line l.scan ≡ last_line l.fn.scan;
}

abbrev pub decreases-regs : goal.decreases-regs
decreases-regs l = length (tokens_at l.scan)
