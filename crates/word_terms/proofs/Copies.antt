-- Lists of copies that grow by one.
use Rattle.std.proofs.Common.{◌≡◌, ℕ, ◌+◌, ◌<◌, List, [], ◌∷◌, ◌++◌, length, get_or, map, take, sym, ap, ◌∙◌}
use Rattle.std.proofs.lemmas.List.{map-append, take_more}

-- the images of the first i items and of the next one
images-more : {A B : Type 0} (f : A → B) (xs : List A) (i : ℕ) (x : A) → i < length xs → x ≡ get_or xs i x → map f (take (i + 1) xs) ≡ map f (take i xs) ++ f x ∷ []
images-more f xs i x lt is = ap (map f) (take_more xs i x lt) ∙ map-append f (take i xs) (get_or xs i x ∷ []) ∙ (λ j. map f (take i xs) ++ f (sym is j) ∷ [])

-- copies of the first i items and of the next one
pub image_pushed : {A B : Type 0} (f : A → B) (copies xs : List A) (i : ℕ) (x y : A) → i < length xs → x ≡ get_or xs i x → f y ≡ f x → map f copies ≡ map f (take i xs)
    → map f (copies ++ y ∷ []) ≡ map f (take (i + 1) xs)
image_pushed f copies xs i x y lt is same before =
    map-append f copies (y ∷ []) ∙ (λ j. before j ++ same j ∷ []) ∙ sym (images-more f xs i x lt is)
