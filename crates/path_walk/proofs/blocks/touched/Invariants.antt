use Rattle.rv_decode.proofs.RegisterLemmas.{HaveFound}
use Rattle.code_parts.specs.Kept.{flow_in}
use Rattle.path_walk.specs.inner.Blocks.{is_touched}
use Rattle.path_walk.proofs.blocks.touched.Given as goal

abbrev pub invariant-loop-r : goal.invariant-loop-r
invariant-loop-r l = HaveFound (is_touched (flow_in l.flow) l.n l.more) l.regs l.r
