-- What a call does to a shelf, by the members of the shelf's trait before and after it.
use Rattle.std.specs.Prelude.{◌≡◌, ℕ, ◌≤◌, Option}
use Rattle.mc_shelf.specs.Fault.{Rose}
use Rattle.mc_shelf.specs.Shelf.{Contents}

-- It reads files and writes none. `Tells` says that it is told what each of them holds.
pub record ReadsFiles {Store : Type 0} (contents : Store → Option Contents) (read_faults write_faults : Store → ℕ) (IsSure : Store → Type 0)
    (Tells : Option Contents → Type 0) (old new : Store) : Type 0 where
  pub kept : contents new ≡ contents old
  pub counted : (read_faults old ≤ read_faults new) × (write_faults old ≤ write_faults new)
  pub stays_sure : IsSure old → IsSure new
  pub sure : IsSure old → Tells (contents old) → (read_faults new ≡ read_faults old) × (write_faults new ≡ write_faults old)

-- It writes a file and reads none; `Failing` says that a write failed.
pub record WritesFile {Store : Type 0} (contents : Store → Option Contents) (read_faults write_faults : Store → ℕ) (IsSure : Store → Type 0)
    (Failing : Type 0) (Tells : Option Contents → Type 0) (old new : Store) : Type 0 where
  pub reads : read_faults new ≡ read_faults old
  pub counted : write_faults old ≤ write_faults new
  pub cause : Failing → Rose (write_faults old) (write_faults new)
  pub sure : IsSure old → Tells (contents old) → write_faults new ≡ write_faults old

-- It reads files, and may write one after that.
pub record ReadsThenWrites {Store : Type 0} (contents : Store → Option Contents) (read_faults write_faults : Store → ℕ) (IsSure : Store → Type 0)
    (Failing : Type 0) (Tells : Option Contents → Type 0) (old new : Store) : Type 0 where
  pub counted : (read_faults old ≤ read_faults new) × (write_faults old ≤ write_faults new)
  pub cause : Failing → Rose (write_faults old) (write_faults new)
  pub sure : IsSure old → Tells (contents old) → (read_faults new ≡ read_faults old) × (write_faults new ≡ write_faults old)
