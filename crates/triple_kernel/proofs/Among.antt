-- Whether a list of images has an item.
use Rattle.std.proofs.Common.{◌≡◌, ℕ, ◌+◌, ◌<◌, List, length, get_or, map, take, sym, ap, ◌∙◌, subst, inl, inr}
use Rattle.std.specs.List.{Contains}
use Rattle.std.proofs.lemmas.List.{get_or-map, length-map}
use Rattle.std.proofs.lemmas.List.Elements.{Contains-push_cases}
use Rattle.tailrec_lang.proofs.Lists.{map-take_more}

-- the item at i has the image
pub is_among : {A B : Type 0} (f : A → B) (xs : List A) (i : ℕ) (x : A) (y : B) → i < length xs → x ≡ get_or xs i x → f x ≡ y → Contains (map f xs) y
is_among f xs i x y lt is e = (i, rw length-map lt, get_or-map f xs i x y lt ∙ ap f (sym is) ∙ e)

-- none of the first i + 1 has it where none of the first i has it and the item at i doesn't
pub not_among_more : {A B : Type 0} (f : A → B) (xs : List A) (i : ℕ) (x : A) (y : B)
    → i < length xs → x ≡ get_or xs i x → (f x ≡ y → ⊥) → (Contains (map f (take i xs)) y → ⊥) → Contains (map f (take (i + 1) xs)) y → ⊥
not_among_more f xs i x y lt is apart before c =
    elim (Contains-push_cases (map f (take i xs)) (f x) y (subst (λ ys. Contains ys y) (map-take_more f xs i x lt is) c)) [
      | inl h ↦ before h
      | inr same ↦ apart same
    ]

-- what holds of the first i images and of the next one holds of the first i + 1
pub among_more : {A B : Type 0} (f : A → B) (P : B → Type 0) (xs : List A) (i : ℕ) (x : A)
    → i < length xs → x ≡ get_or xs i x → ((y : B) → Contains (map f (take i xs)) y → P y) → P (f x) → (y : B) → Contains (map f (take (i + 1) xs)) y → P y
among_more f P xs i x lt is before here y c =
    elim (Contains-push_cases (map f (take i xs)) (f x) y (subst (λ ys. Contains ys y) (map-take_more f xs i x lt is) c)) [
      | inl h ↦ before y h
      | inr same ↦ subst P same here
    ]
