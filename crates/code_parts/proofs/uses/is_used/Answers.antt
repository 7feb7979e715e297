use Rattle.std.proofs.Common.{sym, ◌∙◌}
use Rattle.instr_axioms.specs.Axiom.{is_own}
use Rattle.code_parts.proofs.AnyOf.{none_with}
use Rattle.code_parts.proofs.uses.is_used.Goals as goal

pub loop-n-preserved : goal.loop-n-preserved
loop-n-preserved c = none_with (λ i. is_own i c.args.r) c.args.g.now.instrs c.loop-n.n c.instr.result c.instr.ensures (sym c.stands_in.ensures ∙ c.if-stands_in.false) c.loop-n.invariant
