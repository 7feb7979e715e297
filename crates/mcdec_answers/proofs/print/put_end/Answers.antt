use Rattle.std.proofs.Common.{◌++◌, Ok, Err}
use Rattle.mcdec_answers.specs.Printed.{count_lines, memory_lines, register_lines}
use Rattle.mcdec_answers.proofs.Prints.{prints-exit, prints-then, prints-stopped}
use Rattle.mcdec_answers.proofs.print.put_end.Goals as goal

pub returns-in_err-put_count : goal.returns-in_err-put_count
returns-in_err-put_count g c =
    let e = c.in_err-put_count.field-0.0 in
    let first = count_lines c.args.word.now c.args.count c.args.pc in
    let second = register_lines c.args.registers.now c.args.words.now in
    prints-exit _ e _ _ _ _ _ c.from_residual.ensures.1
    (prints-stopped e (first ++ second) (memory_lines c.args.memory.now c.args.stack.now) _ _ _ _ (prints-stopped e first second _ _ _ _ c.in_err-put_count.ensures))

pub returns-in_err-put_registers : goal.returns-in_err-put_registers
returns-in_err-put_registers g c =
    let e = c.in_err-put_registers.field-0.0 in
    let first = count_lines c.args.word.now c.args.count c.args.pc in
    let second = register_lines c.args.registers.now c.args.words.now in
    prints-exit _ e _ _ _ _ _ c.from_residual-in_err-put_registers.ensures.1
    (prints-stopped e (first ++ second) (memory_lines c.args.memory.now c.args.stack.now) _ _ _ _
    (prints-then (Err e) first second _ _ _ _ _ _ c.in_ok-put_count.ensures c.in_err-put_registers.ensures))

pub returns : goal.returns
returns g c =
    let first = count_lines c.args.word.now c.args.count c.args.pc in
    let second = register_lines c.args.registers.now c.args.words.now in
    prints-then _ (first ++ second) (memory_lines c.args.memory.now c.args.stack.now) _ _ _ _ _ _
    (prints-then (Ok tt) first second _ _ _ _ _ _ c.in_ok-put_count.ensures c.in_ok-put_registers.ensures) c.put_memories.ensures
