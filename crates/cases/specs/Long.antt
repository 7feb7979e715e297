-- What is held by a shelf of which one name may hold many empty lines.
use Rattle.std.specs.Prelude.{ℕ, Bool, true, false, List, Option, Some, None, replicate}
use Rattle.std.specs.Str.{bytes_eq}
use Rattle.mc_shelf.specs.Shelf.{Contents}
use Rattle.mc_shelf.specs.MemShelf.{ShelfState}

-- a name, and how many empty lines it holds
abbrev pub Long : Type 0
Long = List ℕ × ℕ

-- a shelf in memory, and perhaps a name that holds empty lines where that shelf has no such name
pub record LongState : Type 0 where
  pub files : ShelfState
  pub long : Option Long

-- so many empty lines, if the name is the long one
abbrev pub empty_lines : Bool → ℕ → Option (List ℕ)
empty_lines true count = Some (replicate count 10)
empty_lines false count = None

-- what a name holds where the shelf in memory has no such name
abbrev pub long_of : Option Long → List ℕ → Option (List ℕ)
long_of None name = None
long_of (Some long) name = empty_lines (bytes_eq long.0 name) long.1

-- the first of two where there is one, else the second
abbrev pub held_or_long : Option (List ℕ) → Option (List ℕ) → Option (List ℕ)
held_or_long (Some bytes) long = Some bytes
held_or_long None long = long

-- what each name holds
abbrev pub with_long : Option Long → Contents → Contents
with_long long files name = held_or_long (files name) (long_of long name)
