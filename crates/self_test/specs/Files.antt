-- What the file of some words puts into memory.
use Rattle.std.specs.Prelude.{ℕ, ◌*◌, List, length}
use Rattle.std.specs.List.{flat_map}
use Rattle.elf_image.specs.declared.image.Piece.{Piece}
use Rattle.code_gen.specs.ElfFile.{little, start}

-- the words, each low byte first, which may be executed and not written
abbrev pub piece_of_words : List ℕ → Piece
piece_of_words words = record { at = start; flags = 5; size = 4 * length words; from = flat_map (little 4) words }
