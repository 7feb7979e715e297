-- What a sink holds after a piece was put.
use Rattle.std.specs.Prelude.{◌≡◌, ℕ, List, ◌++◌, take, Result, Ok, Err}
use Rattle.mc_shelf.specs.declared.sink.Stop.{Stop}
use Rattle.mc_shelf.specs.declared.sink.Stop.TheVariants.{Failed, NoMemory}

-- the piece, or after a failure a front of it, or nothing where there was no memory, stands at the end
abbrev pub Adds : Result Unit Stop → List ℕ → List ℕ → List ℕ → Type 0
Adds (Ok x) piece old new = new ≡ old ++ piece
Adds (Err Failed) piece old new = (kept : ℕ) × (new ≡ old ++ take kept piece)
Adds (Err NoMemory) piece old new = new ≡ old
