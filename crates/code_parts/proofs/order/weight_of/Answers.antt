use Rattle.std.proofs.Common.{◌<◌, [], length, arith, subst}
use Rattle.code_parts.specs.Flows.{alone, flow_of}
use Rattle.code_parts.specs.Graph.{IsPart}
use Rattle.loop_forest.proofs.Depths.{head-node}
use Rattle.code_parts.proofs.order.weight_of.Goals as goal

pub number-requires : goal.number-requires
number-requires c =
    let lt : c.in-Loop.l < length c.args.forest.now.heads = subst (IsPart (flow_of c.args.graph.now c.args.forest.now (alone c.args.graph.now []))) c.in-Loop.is c.requires.part in
    omega (arith, head-node c.args.graph.now c.args.forest.now c.len.ensures.flow c.requires.forest c.in-Loop.l lt, c.requires.forest.as_long, c.head.ensures)
