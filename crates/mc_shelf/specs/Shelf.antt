-- What the names of a shelf hold, and what its calls do.
use Rattle.std.specs.Prelude.{◌≡◌, ◌≢◌, ℕ, ◌≤◌, List, [], ◌++◌, length, min, take, drop, Option, Some, None, IsSome, Result, Ok, Err, ◌⊎◌, ◌↔◌}
use Rattle.mc_shelf.specs.declared.sink.Stop.{Stop}
use Rattle.mc_shelf.specs.declared.sink.Stop.TheVariants.{Failed, NoMemory}
use Rattle.mc_shelf.specs.Sink.{Adds}

-- the bytes that each name holds, or that it is missing. A name is the bytes of its text
abbrev pub Contents : Type 0
Contents = List ℕ → Option (List ℕ)

-- it is told what the names hold, and the name is not missing
abbrev pub TellsName : Option Contents → List ℕ → Type 0
TellsName None name = ⊥
TellsName (Some files) name = IsSome (files name)

-- a buffer after n bytes were read into it from that place of the file: at least one byte where there is one,
-- and no more than there are
pub record Reads (file : List ℕ) (place : ℕ) (n : ℕ) (old new : List ℕ) : Type 0 where
  pub copied : new ≡ take n (drop place file) ++ drop n old
  pub no_more : n ≤ length (drop place file)
  pub ended : (n ≡ 0) ↔ (length file ≤ place)

-- the same, where n is as many bytes as are there and fit
pub record ReadsAll (file : List ℕ) (place : ℕ) (n : ℕ) (old new : List ℕ) : Type 0 where
  pub count : n ≡ min (length (drop place file)) (length old)
  pub copied : new ≡ take n (drop place file) ++ drop n old

-- the name is there, and n bytes were read of what it holds
abbrev pub ReadsName : Option (List ℕ) → ℕ → ℕ → List ℕ → List ℕ → Type 0
ReadsName None place n old new = ⊥
ReadsName (Some file) place n old new = Reads file place n old new

-- every other name holds what it held
abbrev pub KeepsOthers : List ℕ → Contents → Contents → Type 0
KeepsOthers name old new = (other : List ℕ) → other ≢ name → new other ≡ old other

-- what a name holds after `create`
abbrev pub Empties : Result Unit Stop → Option (List ℕ) → Option (List ℕ) → Type 0
Empties (Ok x) old new = new ≡ Some []
Empties (Err Failed) old new = (new ≡ old) ⊎ (new ≡ Some [])
Empties (Err NoMemory) old new = new ≡ old

-- what a name holds after `append`; it stays missing where it was
abbrev pub AddsToName : Result Unit Stop → List ℕ → Option (List ℕ) → Option (List ℕ) → Type 0
AddsToName result piece (Some old) (Some new) = Adds result piece old new
AddsToName (Err e) piece None None = Unit {0}
AddsToName (Ok x) piece None new = ⊥
AddsToName (Err e) piece None (Some new) = ⊥
AddsToName result piece (Some old) None = ⊥

-- what `create` does to the names
pub record Creates (result : Result Unit Stop) (name : List ℕ) (old new : Contents) : Type 0 where
  pub named : Empties result (old name) (new name)
  pub others : KeepsOthers name old new

-- what `append` does to the names
pub record Appends (result : Result Unit Stop) (name piece : List ℕ) (old new : Contents) : Type 0 where
  pub named : AddsToName result piece (old name) (new name)
  pub others : KeepsOthers name old new
