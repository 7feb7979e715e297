use Rattle.std.proofs.Common.{subst}
use Rattle.std.specs.Prelude.{All, AllPairs}
use Rattle.elf_image.specs.Image.{ArePlaced, IsApart, IsPlaced}
use Rattle.elf_image.proofs.OrderLemmas.{code_is, memory_is, symbols_are}
use Rattle.elf_image.proofs.laws.law_of_image.Goals as goal

placed : (c : goal.After-pieces) → ArePlaced c.args.image.now.pieces
placed c = record {
  placed = subst (All IsPlaced) c.pieces.ensures.pieces c.pieces.ensures.placed;
  apart = subst (AllPairs IsApart) c.pieces.ensures.pieces c.pieces.ensures.apart;
}

pub returns : goal.returns
returns c = record {
  memory = λ file is. memory_is file c.args.image.now is (placed c);
  code = λ file is. code_is file c.args.image.now is (placed c);
  symbols = λ file is. symbols_are file c.args.image.now is;
}
