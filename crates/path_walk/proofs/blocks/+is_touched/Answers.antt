use Rattle.std.proofs.Common.{arith}
use Rattle.code_parts.specs.Kept.{flow_in}
use Rattle.path_walk.proofs.BlockLemmas.{run-rest}
use Rattle.path_walk.proofs.blocks.+is_touched.Goals as goal

pub is_touched-requires : goal.is_touched-requires
is_touched-requires t c = (
  omega (arith, c.decreases, c.if-more-eq0.false),
  (run-rest (flow_in c.args.flow.now) c.args.n c.args.more c.to.result (omega (arith, c.if-more-eq0.false)) c.to.ensures.is c.requires).1,
)
