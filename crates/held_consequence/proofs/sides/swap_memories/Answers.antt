use Rattle.held_consequence.proofs.SideLemmas.{right_kept}
use Rattle.held_consequence.proofs.sides.swap_memories.Goals as goal

pub returns-clause-right : goal.returns-clause-right
returns-clause-right g c = right_kept _ _ _ _ c.requires.right c.in_ok-v.ensures.decided
