use Rattle.std.proofs.Common.{◌≡◌, take}
use Rattle.rv_words.specs.Ranges.{range_bytes}
use Rattle.elf_image.specs.Image.{code_in}
use Rattle.verdicts.proofs.file_code.code_of_pieces.Given as goal

abbrev pub invariant-loop-piece : goal.invariant-loop-piece
invariant-loop-piece l = range_bytes l.ranges ≡ code_in (take l.piece-index l.pieces)
