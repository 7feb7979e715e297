use Rattle.loop_forest.proofs.WalkLaws.{walkable}
use Rattle.loop_forest.proofs.laws.law_of_walks.Goals as goal

pub returns : goal.returns
returns c = walkable
