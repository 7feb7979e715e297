use Rattle.std.proofs.Common.{◌≡◌, drop}
use Rattle.elf_image.specs.Image.{bytes_in}
use Rattle.elf_image.proofs.image.byte_of_pieces.Given as goal

-- those so far have no byte there
abbrev pub invariant-loop-piece : goal.invariant-loop-piece
invariant-loop-piece l = bytes_in (drop l.piece-index l.pieces) l.a ≡ bytes_in l.pieces l.a
