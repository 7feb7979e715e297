use Rattle.std.proofs.Common.{◌≡◌, ◌≤◌, length, map, drop}
use Rattle.std.specs.Prelude.{All, ℕ, List}
use Rattle.elf_image.specs.declared.header.ProgramHeader.{ProgramHeader}
use Rattle.elf_image.specs.declared.image.Piece.{Piece}
use Rattle.elf_image.specs.Image.{IsPlaced, piece_of, rising}
use Rattle.elf_image.proofs.reader.read_pieces.Given as goal

-- the pieces of the headers from i on
pub record AreRead (file : List ℕ) (headers : List ProgramHeader) (pieces : List Piece) (i : ℕ) : Type 0 where
  pub within : i ≤ length headers
  pub pieces_are : pieces ≡ rising (map (piece_of file) (drop i headers))
  pub placed : All IsPlaced pieces

abbrev pub invariant-loop-i : goal.invariant-loop-i
invariant-loop-i l = AreRead l.file l.headers l.pieces.items l.i

abbrev pub decreases-loop-i : goal.decreases-loop-i
decreases-loop-i l = l.i
