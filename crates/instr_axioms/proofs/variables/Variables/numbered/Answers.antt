use Rattle.std.proofs.Common.{arith}
use Rattle.instr_axioms.proofs.Numbered.{numbers_are, place_most}
use Rattle.instr_axioms.proofs.variables.Variables.numbered.Goals as goal

pub overflow_add-words : goal.overflow_add-words
overflow_add-words c = omega (arith, place_most c.args.regs.now c.loop-r.r, c.place_of.ensures, c.requires.room)

pub returns-clause-words : goal.returns-clause-words
returns-clause-words c =
    numbers_are c.loop-r.words c.args.regs.now c.args.first c.loop-r.invariant.long c.requires.registers
    (λ k lt. c.loop-r.invariant.each k (omega (arith, lt, c.loop-r-test.false, c.loop-r.auto.r-end)))
