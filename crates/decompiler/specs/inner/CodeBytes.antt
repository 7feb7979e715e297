-- Pieces of a file whose code are bytes.
use Rattle.rv_words.specs.Bytes.{AreBytes}
use Rattle.elf_image.specs.declared.image.Piece.{Piece}
use Rattle.elf_image.specs.Image.{code_of}

pub record HasBytes (p : Piece) : Type 0 where
  pub bytes : AreBytes (code_of p)
