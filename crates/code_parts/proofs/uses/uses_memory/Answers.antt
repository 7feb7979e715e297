use Rattle.std.proofs.Common.{sym, ◌∙◌}
use Rattle.instr_axioms.specs.Terms.{has_memory}
use Rattle.code_parts.proofs.AnyOf.{none_with}
use Rattle.code_parts.proofs.uses.uses_memory.Goals as goal

pub loop-n-preserved : goal.loop-n-preserved
loop-n-preserved c = none_with has_memory c.args.g.now.instrs c.loop-n.n c.instr.result c.instr.ensures (sym c.has_memory.ensures ∙ c.if-has_memory.false) c.loop-n.invariant
