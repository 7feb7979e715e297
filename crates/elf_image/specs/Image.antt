-- What a file puts into memory, and what the reader returns of it.
use Rattle.std.specs.Prelude.{ℕ, ◌+◌, ◌-◌, ◌%◌, ◌^◌, ◌≤◌, ◌==◌, nat_lt, if◌then◌else◌, Option, None, List, [], ◌∷◌, ◌++◌, All, AllPairs, filter, min, max, map, length, take, drop, replicate}
use Rattle.rv_words.specs.Bytes.{Bytes, bytes_from, over, word_at}
use Rattle.elf_image.specs.declared.header.ProgramHeader.{ProgramHeader}
use Rattle.elf_image.specs.declared.image.Piece.{Piece}
use Rattle.elf_image.specs.Header.{loads}
use Rattle.elf_image.specs.Symbol.{Symbol, symbols_of}

-- ---- what a file puts into memory

-- what a PT_LOAD puts into memory
abbrev pub piece_of : List ℕ → ProgramHeader → Piece
piece_of file h = record { at = h.address; flags = h.flags; size = h.memory_size; from = take h.file_size (drop h.offset file) }

-- the pieces of a file's PT_LOADs, in table order
abbrev pub pieces_of : List ℕ → List Piece
pieces_of file = map (piece_of file) (loads file)

-- the piece's bytes: those from the file, and zeros up to its size
abbrev pub padded : Piece → List ℕ
padded p = p.from ++ replicate (p.size - length p.from) 0

-- the bytes of the pieces
abbrev pub bytes_in : List Piece → Bytes
bytes_in [] = λ a. None
bytes_in (p ∷ ps) = over (bytes_from p.at (padded p)) (bytes_in ps)

-- the piece's bytes from the file, if they may be executed: PF_X is bit 0 of the flags
abbrev pub code_of : Piece → Bytes
code_of p = if p.flags % 2 == 1 then bytes_from p.at p.from else (λ a. None)

-- the code bytes of the pieces
abbrev pub code_in : List Piece → Bytes
code_in [] = λ a. None
code_in (p ∷ ps) = over (code_of p) (code_in ps)

-- the bytes that a file puts into memory
abbrev pub memory_of_file : List ℕ → Bytes
memory_of_file file = bytes_in (pieces_of file)

-- the code bytes of a file
abbrev pub code_of_file : List ℕ → Bytes
code_of_file file = code_in (pieces_of file)

-- the word of the four code bytes from a on, if all are there and none is past the last address
abbrev pub word_in : Bytes → ℕ → Option ℕ
word_in code a = if nat_lt (a + 3) (2 ^ 64) then word_at code a else None

-- ---- what the reader returns

-- the piece in front of the first that doesn't begin below it
abbrev pub before : Piece → List Piece → List Piece
before p [] = p ∷ []
before p (q ∷ qs) = if nat_lt q.at p.at then q ∷ before p qs else p ∷ q ∷ qs

-- in rising address, those of one address in the order given
abbrev pub rising : List Piece → List Piece
rising [] = []
rising (p ∷ ps) = before p (rising ps)

-- each piece begins at or below those after it
abbrev pub IsRising : List Piece → Type 0
IsRising ps = AllPairs (λ p q. p.at ≤ q.at) ps

-- the pieces that begin at an address
abbrev pub pieces_at : ℕ → List Piece → List Piece
pieces_at a ps = filter (λ p. p.at == a) ps

-- pieces in memory, and function symbols
pub record ImageOf : Type 0 where
  pub pieces : List Piece
  pub symbols : List Symbol

-- the image of a file
unfoldable pub image_of : List ℕ → ImageOf
image_of file = record { pieces = rising (pieces_of file); symbols = symbols_of file }

-- the piece's bytes from the file lie in it, and it ends at most at 2 ^ 64
abbrev pub IsPlaced : Piece → Type 0
IsPlaced p = (length p.from ≤ p.size) × (p.at + p.size ≤ 2 ^ 64)

-- no address lies in both
abbrev pub IsApart : Piece → Piece → Type 0
IsApart p q = min (p.at + p.size) (q.at + q.size) ≤ max p.at q.at

-- each piece lies in memory, and no two share an address
pub record ArePlaced (ps : List Piece) : Type 0 where
  pub placed : All IsPlaced ps
  pub apart : AllPairs IsApart ps
