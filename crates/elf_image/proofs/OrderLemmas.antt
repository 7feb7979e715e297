-- In which order pieces stand that share no address doesn't matter to their bytes.
use Rattle.std.proofs.Common.{◌≡◌, ℕ, suc, ◌+◌, ◌<◌, ◌≤◌, Bool, true, false, cond, Option, Some, None, List, [], ◌∷◌, nat_lt, eqb, refl, sym, subst, ap, ◌∙◌, arith}
use Rattle.std.specs.Prelude.{All, AllPairs, ◌%◌}
use Rattle.std.specs.Option.{option_or}
use Rattle.std.proofs.lemmas.Option.{none-some}
use Rattle.std.proofs.lemmas.List.Elements.{All-cons, All-head, All-tail}
use Rattle.rv_words.specs.Bytes.{Bytes, bytes_from, over}
use Rattle.elf_image.specs.declared.image.Piece.{Piece}
use Rattle.elf_image.specs.Image.{ArePlaced, ImageOf, IsApart, IsPlaced, before, bytes_in, code_in, code_of, code_of_file, image_of, memory_of_file, padded, pieces_of, rising}
use Rattle.elf_image.specs.Symbol.{symbols_of}
use Rattle.elf_image.proofs.CodeLemmas.{in_piece, within}
use Rattle.elf_image.proofs.ImageLemmas.{ByPairs, apart_sym, rising_all}

-- ---- pieces that are placed in rising order are placed in the order given

all_before : (P : Piece → Type 0) (p : Piece) (ps : List Piece) → All P (before p ps) → P p × All P ps
all_before P p [] h = (All-head P p [] h, All-tail P p [] h)
all_before P p (q ∷ qs) h = step (nat_lt q.at p.at) h (all_before P p qs)
  where
    step : (t : Bool) → All P (cond t (q ∷ before p qs) (p ∷ q ∷ qs)) → (All P (before p qs) → P p × All P qs) → P p × All P (q ∷ qs)
    step true h r = let rest = r (All-tail P q (before p qs) h) in (rest.0, All-cons P q qs (All-head P q (before p qs) h) rest.1)
    step false h r = (All-head P p (q ∷ qs) h, All-tail P p (q ∷ qs) h)

all_rising : (P : Piece → Type 0) (ps : List Piece) → All P (rising ps) → All P ps
all_rising P [] h = h
all_rising P (p ∷ ps) h = let parts = all_before P p (rising ps) h in All-cons P p ps parts.0 (all_rising P ps parts.1)

by_pairs : (R : Piece → Piece → Type 0) (ps : List Piece) → AllPairs R ps → ByPairs R ps
by_pairs R [] h = tt
by_pairs R (p ∷ ps) h = (λ j d l. h 0 (suc j) d (omega arith) (omega arith), by_pairs R ps (λ i j d lt l. h (suc i) (suc j) d (omega arith) (omega arith)))

apart_before : (p : Piece) (ps : List Piece) → ByPairs IsApart (before p ps) → All (IsApart p) ps × ByPairs IsApart ps
apart_before p [] h = h
apart_before p (q ∷ qs) h = step (nat_lt q.at p.at) h (apart_before p qs)
  where
    step : (t : Bool) → ByPairs IsApart (cond t (q ∷ before p qs) (p ∷ q ∷ qs)) → (ByPairs IsApart (before p qs) → All (IsApart p) qs × ByPairs IsApart qs)
        → All (IsApart p) (q ∷ qs) × ByPairs IsApart (q ∷ qs)
    step true h r =
        let rest = r h.1 in
        let others = all_before (IsApart q) p qs h.0 in
        (All-cons (IsApart p) q qs (apart_sym q p others.0) rest.0, (others.1, rest.1))
    step false h r = h

apart_rising : (ps : List Piece) → ByPairs IsApart (rising ps) → ByPairs IsApart ps
apart_rising [] h = h
apart_rising (p ∷ ps) h = let parts = apart_before p (rising ps) h in (all_rising (IsApart p) ps parts.0, apart_rising ps parts.1)

-- ---- the bytes of pieces, where each has bytes only in itself

module _ (bytes : Piece → Bytes) (inside : (p : Piece) (a b : ℕ) → IsPlaced p → bytes p a ≡ Some b → (p.at ≤ a) × (a < p.at + p.size)) where
  layers : List Piece → Bytes
  layers [] = λ a. None
  layers (p ∷ ps) = over (bytes p) (layers ps)

  swapped : (p q : Piece) (m : Bytes) → IsPlaced p → IsPlaced q → IsApart p q → over (bytes q) (over (bytes p) m) ≡ over (bytes p) (over (bytes q) m)
  swapped p q m h k apart =
      let at : (a : ℕ) → over (bytes q) (over (bytes p) m) a ≡ over (bytes p) (over (bytes q) m) a = λ a. one a (bytes p a) refl (bytes q a) refl in
      λ i a. at a i
    where
      one : (a : ℕ) (x : Option ℕ) → bytes p a ≡ x → (y : Option ℕ) → bytes q a ≡ y → option_or y (option_or x (m a)) ≡ option_or x (option_or y (m a))
      one a None e y f = refl
      one a (Some b) e None f = refl
      one a (Some b) e (Some c) f = let in_p = inside p a b h e in let in_q = inside q a c k f in absurd (omega (arith, apart, in_p, in_q))

  layers_before : (p : Piece) (ps : List Piece) → IsPlaced p → All IsPlaced ps → All (IsApart p) ps → layers (before p ps) ≡ layers (p ∷ ps)
  unfolding layers
  layers_before p [] h hs apart = refl
  layers_before p (q ∷ qs) h hs apart = step (nat_lt q.at p.at) (layers_before p qs h (All-tail IsPlaced q qs hs) (All-tail (IsApart p) q qs apart))
    where
      step : (t : Bool) → layers (before p qs) ≡ layers (p ∷ qs) → layers (cond t (q ∷ before p qs) (p ∷ q ∷ qs)) ≡ layers (p ∷ q ∷ qs)
      step true r = (λ i. over (bytes q) (r i)) ∙ swapped p q (layers qs) h (All-head IsPlaced q qs hs) (All-head (IsApart p) q qs apart)
      step false r = refl

  layers_rising : (ps : List Piece) → All IsPlaced ps → ByPairs IsApart ps → layers (rising ps) ≡ layers ps
  unfolding layers
  layers_rising [] h apart = refl
  layers_rising (p ∷ ps) h apart =
      layers_before p (rising ps) (All-head IsPlaced p ps h) (rising_all IsPlaced ps (All-tail IsPlaced p ps h)) (rising_all (IsApart p) ps apart.0)
      ∙ (λ i. over (bytes p) (layers_rising ps (All-tail IsPlaced p ps h) apart.1 i))

  in_any_order : (ps : List Piece) → ArePlaced (rising ps) → layers (rising ps) ≡ layers ps
  in_any_order ps h = layers_rising ps (all_rising IsPlaced ps h.placed) (apart_rising ps (by_pairs IsApart (rising ps) h.apart))

-- ---- memory and code

code_inside : (p : Piece) (a b : ℕ) → IsPlaced p → code_of p a ≡ Some b → (p.at ≤ a) × (a < p.at + p.size)
code_inside p a b h e = step (eqb (p.flags % 2) 1) e
  where
    step : (t : Bool) → cond t (bytes_from p.at p.from) (λ a. None) a ≡ Some b → (p.at ≤ a) × (a < p.at + p.size)
    step true e = let at = within p.at a p.from b e in (at.0, omega (arith, at.1, h.0))
    step false e = absurd (none-some b e)

-- the bytes of a piece
abbrev bytes_of : Piece → Bytes
bytes_of p = bytes_from p.at (padded p)

bytes_layered : (ps : List Piece) → bytes_in ps ≡ layers bytes_of in_piece ps
unfolding layers
bytes_layered [] = refl
bytes_layered (p ∷ ps) = λ i. over (bytes_of p) (bytes_layered ps i)

code_layered : (ps : List Piece) → code_in ps ≡ layers code_of code_inside ps
unfolding layers
code_layered [] = refl
code_layered (p ∷ ps) = λ i. over (code_of p) (code_layered ps i)

bytes_rising : (ps : List Piece) → ArePlaced (rising ps) → bytes_in (rising ps) ≡ bytes_in ps
bytes_rising ps h = bytes_layered (rising ps) ∙ in_any_order bytes_of in_piece ps h ∙ sym (bytes_layered ps)

code_rising : (ps : List Piece) → ArePlaced (rising ps) → code_in (rising ps) ≡ code_in ps
code_rising ps h = code_layered (rising ps) ∙ in_any_order code_of code_inside ps h ∙ sym (code_layered ps)

-- ---- the image of a file

module _ (file : List ℕ) (i : ImageOf) (is : i ≡ image_of file) where
  pieces_are : i.pieces ≡ rising (pieces_of file)
  unfolding image_of
  pieces_are = ap (λ (j : ImageOf). j.pieces) is

  pub memory_is : ArePlaced i.pieces → bytes_in i.pieces ≡ memory_of_file file
  memory_is h = ap bytes_in pieces_are ∙ bytes_rising (pieces_of file) (subst ArePlaced pieces_are h)

  pub code_is : ArePlaced i.pieces → code_in i.pieces ≡ code_of_file file
  code_is h = ap code_in pieces_are ∙ code_rising (pieces_of file) (subst ArePlaced pieces_are h)

  pub symbols_are : i.symbols ≡ symbols_of file
  unfolding image_of
  symbols_are = ap (λ (j : ImageOf). j.symbols) is
