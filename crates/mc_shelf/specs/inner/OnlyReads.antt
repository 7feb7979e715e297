-- What reading a name does to a shelf, in one call or in several.
use Rattle.std.specs.Prelude.{◌≡◌, ℕ, ◌≤◌, List, Option}
use Rattle.mc_shelf.specs.Fault.{Rose}
use Rattle.mc_shelf.specs.Shelf.{Contents, TellsName}

-- the shelf before and after, by the members of its trait, and whether the last call failed
pub record OnlyReads {Store : Type 0} (contents : Store → Option Contents) (read_faults write_faults : Store → ℕ) (IsSure : Store → Type 0)
    (Failing : Type 0) (name : List ℕ) (old new : Store) : Type 0 where
  pub kept : contents new ≡ contents old
  pub reads : read_faults old ≤ read_faults new
  pub writes : write_faults new ≡ write_faults old
  pub cause : Failing → Rose (read_faults old) (read_faults new)
  pub stays_sure : IsSure old → IsSure new
  pub sure_fault : IsSure old → TellsName (contents old) name → Failing → ⊥
  pub sure_counts : IsSure old → TellsName (contents old) name → read_faults new ≡ read_faults old
