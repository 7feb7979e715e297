use Rattle.loop_forest.proofs.Depths.{deeper}
use Rattle.loop_forest.proofs.laws.law_of_depths.Goals as goal

pub returns : goal.returns
returns c = λ g f l flow forest lt. deeper g f flow forest l lt
