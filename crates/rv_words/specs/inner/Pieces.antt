-- How pieces of memory stand for the bytes at addresses.
use Rattle.std.specs.Prelude.{ℕ, suc, ◌+◌, ◌^◌, ◌<◌, ◌≤◌, None, List, [], ◌∷◌, ◌++◌, length, slice_index_or}
use Rattle.std.specs.Ordering.{nat_cmp}
use Rattle.std.specs.FinMap.{FinMap, from_entries}
use Rattle.rv_words.specs.Bytes.{AreBytes, Bytes, bytes_from, over}
use Rattle.rv_words.specs.declared.pieces.Piece.{Piece}

-- the address right after a piece
abbrev pub end : Piece → ℕ
end p = p.at + length p.bytes.items

-- each piece begins at or above `least`, isn't empty and ends at most at 2 ^ 64, and the next begins at or above its end
abbrev pub ArePiecesFrom : ℕ → List Piece → Type 0
ArePiecesFrom least [] = Unit {0}
ArePiecesFrom least (p ∷ ps) = (least ≤ p.at) × (0 < length p.bytes.items) × (end p ≤ 2 ^ 64) × ArePiecesFrom (end p) ps

-- pieces that aren't empty, rise, don't overlap, and end at most at 2 ^ 64
abbrev pub ArePieces : List Piece → Type 0
ArePieces ps = ArePiecesFrom 0 ps

-- the least address at which a piece after these may begin
abbrev pub above : ℕ → List Piece → ℕ
above least [] = least
above least (p ∷ ps) = above (end p) ps

-- the bytes that are in the pieces
abbrev pub bytes_in : List Piece → Bytes
bytes_in [] = λ q. None
bytes_in (p ∷ ps) = over (bytes_from p.at p.bytes.items) (bytes_in ps)

-- what a map keeps: pieces in order, with bytes in them
pub record AreKept (ps : List Piece) : Type 0 where
  pub rise : ArePieces ps
  pub bytes : AreBytes (bytes_in ps)

-- each address from a on with its byte
abbrev pub entries_from : ℕ → List ℕ → List (ℕ × ℕ)
entries_from a [] = []
entries_from a (b ∷ bs) = (a, b) ∷ entries_from (suc a) bs

-- each address with its byte
abbrev pub entries_in : List Piece → List (ℕ × ℕ)
entries_in [] = []
entries_in (p ∷ ps) = entries_from p.at p.bytes.items ++ entries_in ps

-- the pieces as a finite map
unfoldable pub map_of : List Piece → FinMap nat_cmp ℕ
map_of ps = from_entries (entries_in ps)

-- piece i has all n addresses from a on
abbrev pub Holds : List Piece → ℕ → ℕ → ℕ → Type 0
Holds ps i a n = (i < length ps) × ((d : Piece) → (slice_index_or ps i d).at ≤ a) × ((d : Piece) → a + n ≤ end (slice_index_or ps i d))
