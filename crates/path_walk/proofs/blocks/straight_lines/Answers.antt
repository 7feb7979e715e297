use Rattle.std.proofs.Common.{sym, subst}
use Rattle.code_parts.specs.Kept.{flow_in}
use Rattle.path_walk.specs.inner.Acts.{HasOwn}
use Rattle.path_walk.specs.inner.Writers.{OriginTree}
use Rattle.path_walk.proofs.InstructionLemmas.{has_own}
use Rattle.path_walk.proofs.blocks.straight_lines.Goals as goal

pub run_lines-requires-clause-each : goal.run_lines-requires-clause-each
run_lines-requires-clause-each c =
    subst (λ (o : OriginTree). HasOwn o.regs ((flow_in c.args.flow.now).instr c.args.n)) (sym c.front-origin.ensures.is)
    (has_own (flow_in c.args.flow.now) c.args.flow.now.code c.args.n (c.law_of_code.ensures.each c.args.n c.requires.straight.node))
