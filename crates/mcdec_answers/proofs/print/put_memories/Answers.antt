use Rattle.std.specs.Prelude.{flat_map}
use Rattle.mcdec_answers.specs.declared.command.Memory.TheVariants.{First, Second}
use Rattle.mcdec_answers.specs.Printed.{range_line}
use Rattle.mcdec_answers.proofs.Prints.{prints-exit, prints-then, prints-stopped}
use Rattle.mcdec_answers.proofs.print.put_memories.Goals as goal

pub returns-in_err-put_ranges : goal.returns-in_err-put_ranges
returns-in_err-put_ranges g c =
    let e = c.in_err-put_ranges.field-0.0 in
    prints-exit _ e _ _ _ _ _ c.from_residual.ensures.1
    (prints-stopped e (flat_map (range_line First) c.args.memory.now) (flat_map (range_line Second) c.args.stack.now) _ _ _ _ c.in_err-put_ranges.ensures)

pub returns : goal.returns
returns g c =
    prints-then _ (flat_map (range_line First) c.args.memory.now) (flat_map (range_line Second) c.args.stack.now) _ _ _ _ _ _ c.in_ok-put_ranges.ensures c.put_ranges-2.ensures
