-- What holds of all that a bench keeps.
use Rattle.std.specs.Prelude.{◌≡◌, length}
use Rattle.tailrec_lang.specs.WellFormed.{IsWellFormed}
use Rattle.verdicts.specs.Sound.{Sound}
use Rattle.checker.specs.Bench.{BenchState, state_group, state_history, state_nodes}
use Rattle.held_definitions.specs.Theorems.{AreHeldAt}

-- The numbers of its theorems are there, each definition has a place, the group is well-formed, each theorem is valid, and so is
-- the triple of each exit of a closed definition.
pub record IsSoundState (k : BenchState) : Type 0 where
  pub there : AreHeldAt (state_nodes k) k.2
  pub count : length k.4 ≡ length k.0.defs
  pub well_formed : IsWellFormed (state_group k)
  pub sound : Sound (state_group k) (state_history k)
