-- What is claimed of a file that a name holds.
use Rattle.std.specs.Prelude.{◌≡◌, List, ℕ, Option, Some, IfSome}
use Rattle.mc_shelf.specs.Shelf.{Contents}

-- the name holds a file with P, as far as it is told what names hold
abbrev pub HasFile : Option Contents → List ℕ → (List ℕ → Type 0) → Type 0
HasFile told name P = IfSome told (λ files. (file : List ℕ) × (files name ≡ Some file) × P file)
