use Rattle.std.proofs.Common.{◌≡◌, drop}
use Rattle.elf_image.specs.Image.{code_in}
use Rattle.elf_image.proofs.image.code_of_pieces.Given as goal

-- those so far have no code byte there
abbrev pub invariant-loop-piece : goal.invariant-loop-piece
invariant-loop-piece l = code_in (drop l.piece-index l.pieces) l.a ≡ code_in l.pieces l.a
