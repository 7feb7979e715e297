use Rattle.std.proofs.Common.{sym, ◌∙◌}
use Rattle.code_parts.specs.Graph.{is_jump_through}
use Rattle.code_parts.proofs.AnyOf.{none_with}
use Rattle.code_parts.proofs.uses.returns.Goals as goal

pub loop-n-preserved : goal.loop-n-preserved
loop-n-preserved c = none_with is_jump_through c.args.g.now.instrs c.loop-n.n c.instr.result c.instr.ensures (sym c.is_jump_through.ensures ∙ c.if-is_jump_through.false) c.loop-n.invariant
