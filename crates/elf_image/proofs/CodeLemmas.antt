-- The code bytes of pieces that no address shares are bytes of these pieces.
use Rattle.std.proofs.Common.{◌≡◌, ℕ, zero, suc, ◌+◌, ◌-◌, ◌<◌, ◌≤◌, Bool, true, false, cond, Option, Some, None, List, [], ◌∷◌, ◌++◌, length, replicate, leb, eqb, refl, sym, ◌∙◌, arith}
use Rattle.std.specs.Prelude.{All, AllPairs, IfSome, ◌%◌}
use Rattle.std.specs.Option.{option_or}
use Rattle.std.specs.List.{slice_get}
use Rattle.std.proofs.lemmas.Bool.{leb-true}
use Rattle.std.proofs.lemmas.List.{length-append, length-replicate}
use Rattle.std.proofs.lemmas.List.Elements.{All-head, All-tail}
use Rattle.std.proofs.lemmas.Option.{none-some, slice_get_within}
use Rattle.rv_words.specs.Bytes.{bytes_from}
use Rattle.elf_image.specs.declared.image.Piece.{Piece}
use Rattle.elf_image.specs.Image.{ArePlaced, IsApart, IsPlaced, bytes_in, code_in, code_of, padded}

slice_get_front : (xs ys : List ℕ) (k b : ℕ) → slice_get xs k ≡ Some b → slice_get (xs ++ ys) k ≡ Some b
slice_get_front [] ys k b e = absurd (none-some b e)
slice_get_front (x ∷ xs) ys zero b e = e
slice_get_front (x ∷ xs) ys (suc k) b e = slice_get_front xs ys k b e

front : (a q : ℕ) (xs ys : List ℕ) (b : ℕ) → bytes_from a xs q ≡ Some b → bytes_from a (xs ++ ys) q ≡ Some b
front a q xs ys b e = step (leb a q) e
  where
    step : (t : Bool) → cond t (slice_get xs (q - a)) None ≡ Some b → cond t (slice_get (xs ++ ys) (q - a)) None ≡ Some b
    step true e = slice_get_front xs ys (q - a) b e
    step false e = absurd (none-some b e)

pub within : (a q : ℕ) (xs : List ℕ) (b : ℕ) → bytes_from a xs q ≡ Some b → (a ≤ q) × (q < a + length xs)
within a q xs b e = step (leb a q) refl e
  where
    step : (t : Bool) → leb a q ≡ t → cond t (slice_get xs (q - a)) None ≡ Some b → (a ≤ q) × (q < a + length xs)
    step true h e = let le = leb-true a q h in (le, omega (arith, le, slice_get_within xs (q - a) b e))
    step false h e = absurd (none-some b e)

pub in_piece : (p : Piece) (a b : ℕ) → IsPlaced p → bytes_from p.at (padded p) a ≡ Some b → (p.at ≤ a) × (a < p.at + p.size)
in_piece p a b h e =
    let zeros : List ℕ = replicate (p.size - length p.from) 0 in
    let at = within p.at a (padded p) b e in
    (at.0, omega (arith, at.1, h.0, length-append p.from zeros, length-replicate {A = ℕ} (p.size - length p.from) 0))

-- what is in a piece is in no piece apart from it
none_apart : (p : Piece) (ps : List Piece) (a : ℕ) → All IsPlaced ps → All (IsApart p) ps → p.at ≤ a → a < p.at + p.size → bytes_in ps a ≡ None
none_apart p [] a h k l lt = refl
none_apart p (q ∷ qs) a h k l lt =
    step (bytes_from q.at (padded q) a) refl (none_apart p qs a (All-tail IsPlaced q qs h) (All-tail (IsApart p) q qs k) l lt)
  where
    step : (o : Option ℕ) → bytes_from q.at (padded q) a ≡ o → bytes_in qs a ≡ None → option_or o (bytes_in qs a) ≡ None
    step None e r = r
    step (Some b) e r =
        let at = in_piece q a b (All-head IsPlaced q qs h) e in
        let apart = All-head (IsApart p) q qs k in
        absurd (omega arith)

pub code_is_byte : (ps : List Piece) (a b : ℕ) → All IsPlaced ps → AllPairs IsApart ps → code_in ps a ≡ Some b → bytes_in ps a ≡ Some b
code_is_byte [] a b h k e = absurd (none-some b e)
code_is_byte (p ∷ ps) a b h k e =
    let others : AllPairs IsApart ps = λ i j d lt l. k (suc i) (suc j) d (omega arith) (omega arith) in
    let from_p : All (IsApart p) ps = λ j d l. k 0 (suc j) d (omega arith) (omega arith) in
    step (code_of p a) refl e (code_is_byte ps a b (All-tail IsPlaced p ps h) others) from_p
  where
    in_code : (t : Bool) (o : ℕ) → cond t (bytes_from p.at p.from) (λ a. None) a ≡ Some o → bytes_from p.at p.from a ≡ Some o
    in_code true o e = e
    in_code false o e = absurd (none-some o e)

    rest : All (IsApart p) ps → (o : Option ℕ) → bytes_from p.at (padded p) a ≡ o → bytes_in ps a ≡ Some b → option_or o (bytes_in ps a) ≡ Some b
    rest apart None f r = r
    rest apart (Some c) f r =
        let at = in_piece p a c (All-head IsPlaced p ps h) f in
        absurd (none-some b (sym (none_apart p ps a (All-tail IsPlaced p ps h) apart at.0 at.1) ∙ r))

    step : (o : Option ℕ) → code_of p a ≡ o → option_or o (code_in ps a) ≡ Some b → (code_in ps a ≡ Some b → bytes_in ps a ≡ Some b) → All (IsApart p) ps → bytes_in (p ∷ ps) a ≡ Some b
    step None f g r apart = rest apart (bytes_from p.at (padded p) a) refl (r g)
    step (Some c) f g r apart =
        (λ j. option_or (front p.at a p.from (replicate (p.size - length p.from) 0) c (in_code (eqb (p.flags % 2) 1) c f) j) (bytes_in ps a)) ∙ g

pub found_is_byte : (o : Option ℕ) (ps : List Piece) (a : ℕ) → ArePlaced ps → o ≡ code_in ps a → IfSome o (λ b. bytes_in ps a ≡ Some b)
found_is_byte None ps a h e = tt
found_is_byte (Some b) ps a h e = code_is_byte ps a b h.placed h.apart (sym e)
