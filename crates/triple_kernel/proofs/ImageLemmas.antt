-- Lists of images that differ at some place.
use Rattle.std.proofs.Common.{◌≡◌, ℕ, ◌<◌, List, length, get_or, map, sym, ap, ◌∙◌}
use Rattle.std.proofs.lemmas.List.{get_or-map, length-map}

pub images_differ : {A B : Type 0} (h : B → B) (f : A → B) (a b : List A) (i : ℕ) (x y : A)
    → x ≡ get_or a i x → y ≡ get_or b i y → i < length a → i < length b → (h (f x) ≡ f y → ⊥) → map h (map f a) ≡ map f b → ⊥
images_differ h f a b i x y hx hy la lb apart e =
    apart (ap (λ z. h (f z)) hx ∙ ap h (sym (get_or-map f a i x (f x) la)) ∙ sym (get_or-map h (map f a) i (f x) (h (f x)) (rw length-map la)) ∙ (λ j. get_or (e j) i (h (f x))) ∙ get_or-map f b i y (h (f x)) lb ∙ sym (ap f hy))
