-- Lists that grow by one.
use Rattle.std.proofs.Common.{◌≡◌, ℕ, ◌+◌, ◌<◌, List, [], ◌∷◌, ◌++◌, length, get_or, map, take, sym, ap, ◌∙◌}
use Rattle.std.proofs.lemmas.List.{map-append, take_more}

pub pushed : {A B C : Type 0} (f : A → C) (g : B → C) (outs : List A) (xs : List B) (i : ℕ) (x : B) (y : A) → i < length xs → x ≡ get_or xs i x → f y ≡ g x
    → map f outs ≡ map g (take i xs) → map f (outs ++ y ∷ []) ≡ map g (take (i + 1) xs)
pushed f g outs xs i x y lt is same before =
    map-append f outs (y ∷ []) ∙ (λ j. before j ++ same j ∷ []) ∙ (λ j. map g (take i xs) ++ g (is j) ∷ [])
    ∙ sym (ap (map g) (take_more xs i x lt) ∙ map-append g (take i xs) (get_or xs i x ∷ []))
