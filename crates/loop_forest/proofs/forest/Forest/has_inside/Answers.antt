use Rattle.loop_forest.proofs.Depths.{inside_is}
use Rattle.loop_forest.proofs.forest.Forest.has_inside.Goals as goal

pub returns : goal.returns
returns c = inside_is c.args.self.now c.args.l c.args.n c.inside.result c.inside.ensures
