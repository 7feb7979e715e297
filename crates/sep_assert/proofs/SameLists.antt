-- Two lists whose items stand for different things at some place.
use Rattle.std.proofs.Common.{◌≡◌, ℕ, ◌<◌, List, length, get_or, map, sym, ap, ◌∙◌}
use Rattle.std.proofs.lemmas.List.{get_or-map}

pub map_differs : {A B : Type 0} (f : A → B) (a b : List A) (i : ℕ) (x y : A)
    → x ≡ get_or a i x → y ≡ get_or b i y → i < length a → i < length b → (f x ≡ f y → ⊥) → map f a ≡ map f b → ⊥
map_differs f a b i x y hx hy la lb apart e =
    apart (ap f hx ∙ sym (get_or-map f a i x (f x) la) ∙ (λ j. get_or (e j) i (f x)) ∙ get_or-map f b i y (f x) lb ∙ sym (ap f hy))
