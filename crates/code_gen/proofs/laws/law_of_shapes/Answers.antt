use Rattle.code_gen.proofs.ShapeLemmas.{drawn-shaped}
use Rattle.code_gen.proofs.laws.law_of_shapes.Goals as goal

pub returns : goal.returns
returns c = drawn-shaped
