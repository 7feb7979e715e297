use Rattle.held_instances.proofs.SlotLemmas.{cleared}
use Rattle.held_instances.proofs.image_table.ImageTable.clear.Goals as goal

pub returns-in-Some : goal.returns-in-Some
returns-in-Some c = cleared c.self.inside.turn c.in-Some.turn c.self.inside.slots c.self.invariant c.in-Some.ensures.1
