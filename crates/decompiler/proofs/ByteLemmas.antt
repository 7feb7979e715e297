-- The code bytes of pieces are those of each.
use Rattle.std.proofs.Common.{◌≡◌, ℕ, suc, ◌<◌, All, Option, Some, None, List, [], ◌∷◌, arith}
use Rattle.std.specs.Option.{option_or}
use Rattle.rv_words.specs.Bytes.{AreBytes}
use Rattle.elf_image.specs.declared.image.Piece.{Piece}
use Rattle.elf_image.specs.Image.{code_in, code_of}
use Rattle.decompiler.specs.inner.CodeBytes.{HasBytes}

first_small : (o q : Option ℕ) (b : ℕ) → ((c : ℕ) → o ≡ Some c → c < 256) → ((c : ℕ) → q ≡ Some c → c < 256) → option_or o q ≡ Some b → b < 256
first_small None q b h k e = k b e
first_small (Some c) q b h k e = h b e

pub code_small : (ps : List Piece) → All HasBytes ps → AreBytes (code_in ps)
code_small [] h a b e = absurd cc
code_small (p ∷ ps) h a b e =
    let first : HasBytes p = h 0 p (omega arith) in
    let rest : All HasBytes ps = λ k d l. h (suc k) d (omega (arith, l)) in
    first_small (code_of p a) (code_in ps a) b (first.bytes a) (code_small ps rest a) e
