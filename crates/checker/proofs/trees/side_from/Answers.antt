use Rattle.checker.proofs.TreesLemmas.{side_steps}
use Rattle.checker.proofs.trees.side_from.Goals as goal

pub returns-in_err-pc-clause-steps : goal.returns-in_err-pc-clause-steps
returns-in_err-pc-clause-steps g c = side_steps c.args.arena.now c.args.side.now _ _ _ _ _ _ c.as_slice.ensures c.as_slice-2.ensures c.word_from-pc.ensures.steps c.registers_from-regs.ensures.steps c.mems_from-mems.ensures.steps

pub returns-in_err-regs-clause-steps : goal.returns-in_err-regs-clause-steps
returns-in_err-regs-clause-steps g c = side_steps c.args.arena.now c.args.side.now _ _ _ _ _ _ c.as_slice.ensures c.as_slice-2.ensures c.word_from-pc.ensures.steps c.registers_from-regs.ensures.steps c.mems_from-mems.ensures.steps

pub returns-in_err-mems-clause-steps : goal.returns-in_err-mems-clause-steps
returns-in_err-mems-clause-steps g c = side_steps c.args.arena.now c.args.side.now _ _ _ _ _ _ c.as_slice.ensures c.as_slice-2.ensures c.word_from-pc.ensures.steps c.registers_from-regs.ensures.steps c.mems_from-mems.ensures.steps

pub returns-clause-steps : goal.returns-clause-steps
returns-clause-steps g c = side_steps c.args.arena.now c.args.side.now _ _ _ _ _ _ c.as_slice.ensures c.as_slice-2.ensures c.word_from-pc.ensures.steps c.registers_from-regs.ensures.steps c.mems_from-mems.ensures.steps
