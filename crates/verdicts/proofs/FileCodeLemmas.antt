-- The bytes of ranges and of pieces, one more at a time.
use Rattle.std.proofs.Common.{◌≡◌, ℕ, ◌+◌, ◌<◌, Option, Some, None, List, [], ◌∷◌, ◌++◌, length, take, get_or, refl, sym, ◌∙◌, ap, add-one}
use Rattle.std.specs.Option.{option_or}
use Rattle.std.proofs.Math.Seq.{take-suc}
use Rattle.rv_words.specs.Bytes.{Bytes, over}
use Rattle.elf_image.specs.declared.image.Piece.{Piece}
use Rattle.elf_image.specs.Image.{code_in, code_of}

or_none : (o : Option ℕ) → option_or o None ≡ o
or_none None = refl
or_none (Some b) = refl

or_assoc : (o p q : Option ℕ) → option_or (option_or o p) q ≡ option_or o (option_or p q)
or_assoc None p q = refl
or_assoc (Some b) p q = refl

-- bytes over none are the bytes
over-none : (x : Bytes) → over x (λ a. None) ≡ x
over-none x = λ i a. or_none (x a) i

over-assoc : (x y z : Bytes) → over (over x y) z ≡ over x (over y z)
over-assoc x y z = λ i a. or_assoc (x a) (y a) (z a) i

code-append : (ps : List Piece) (p : Piece) → code_in (ps ++ p ∷ []) ≡ over (code_in ps) (code_of p)
code-append [] p = over-none (code_of p)
code-append (q ∷ qs) p = (λ i. over (code_of q) (code-append qs p i)) ∙ sym (over-assoc (code_of q) (code_in qs) (code_of p))

-- the code of one piece more
pub code-more : (ps : List Piece) (i : ℕ) (p : Piece) → i < length ps → p ≡ get_or ps i p → code_in (take (i + 1) ps) ≡ over (code_in (take i ps)) (code_of p)
code-more ps i p lt is =
    let more : take (i + 1) ps ≡ take i ps ++ p ∷ [] = rw (add-one, take-suc ps i p lt, ← is) in
    ap code_in more ∙ code-append (take i ps) p
