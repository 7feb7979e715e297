-- A fact of each image of a list's items.
use Rattle.std.proofs.Common.{◌≡◌, ℕ, ◌+◌, ◌<◌, ◌≤◌, List, [], ◌∷◌, ◌++◌, length, get_or, map, take, sym, ap, ◌∙◌, arith, subst}
use Rattle.std.specs.Prelude.{All, slice_get, Some}
use Rattle.std.proofs.lemmas.List.{get_or-map, length-map, take_more, map-append, length-take-le, get_or-take, take_all, take-map}
use Rattle.std.proofs.lemmas.Option.{get_or_from_slice_get}
use Rattle.std.proofs.lemmas.List.Elements.{All-push}

-- the fact holds of the image of the item at i
pub all-at : {A B : Type 0} (f : A → B) (P : B → Type 0) (xs : List A) (i : ℕ) (x : A) → i < length xs → x ≡ get_or xs i x → All P (map f xs) → P (f x)
all-at f P xs i x lt is all = subst P (get_or-map f xs i x (f x) lt ∙ ap f (sym is)) (all i (f x) (rw length-map lt))

-- the images of the first i items and the next one
pub map-take_more : {A B : Type 0} (f : A → B) (xs : List A) (i : ℕ) (x : A) → i < length xs → x ≡ get_or xs i x → map f (take (i + 1) xs) ≡ map f (take i xs) ++ f x ∷ []
map-take_more f xs i x lt is = ap (map f) (take_more xs i x lt) ∙ map-append f (take i xs) (get_or xs i x ∷ []) ∙ (λ j. map f (take i xs) ++ f (sym is j) ∷ [])

-- a fact of the images of the first i items and of the next one
pub all-take_more : {A B : Type 0} (f : A → B) (P : B → Type 0) (xs : List A) (i : ℕ) (x : A) → i < length xs → x ≡ get_or xs i x → All P (map f (take i xs)) → P (f x) → All P (map f (take (i + 1) xs))
all-take_more f P xs i x lt is before here = subst (All P) (sym (map-take_more f xs i x lt is)) (All-push P (map f (take i xs)) (f x) before here)

-- the fact holds of all images where it holds of the images of the first n items, and there are no more
pub all-take_all : {A B : Type 0} (f : A → B) (P : B → Type 0) (xs : List A) (n : ℕ) → length xs ≤ n → All P (map f (take n xs)) → All P (map f xs)
all-take_all f P xs n le all = subst (λ ys. All P (map f ys)) (take_all n xs le) all

-- the fact holds of the image at k, which is one of the first i
pub all-take-get : {A B : Type 0} (f : A → B) (P : B → Type 0) (xs : List A) (i : ℕ) → i ≤ length xs → All P (map f (take i xs)) → (k : ℕ) (y : B) → k < i → slice_get (map f xs) k ≡ Some y → P y
all-take-get f P xs i le all k y lt is =
    let same : get_or (map f (take i xs)) k y ≡ y = (λ j. get_or (sym (take-map f i xs) j) k y) ∙ get_or-take i (map f xs) k y lt ∙ get_or_from_slice_get (map f xs) k y y is in
    let count : length (map f (take i xs)) ≡ i = length-map (take i xs) f ∙ length-take-le i xs le in
    subst P same (all k y (omega (arith, count)))

-- the image at i is that of the item at i
pub image-at : {A B : Type 0} (f : A → B) (xs : List A) (i : ℕ) (x : A) (y : B) → i < length xs → x ≡ get_or xs i x → slice_get (map f xs) i ≡ Some y → f x ≡ y
image-at f xs i x y lt is e = ap f is ∙ sym (get_or-map f xs i x y lt) ∙ get_or_from_slice_get (map f xs) i y y e

-- the fact holds of the images of the first n items where it holds of all
pub all-front : {A B : Type 0} (f : A → B) (P : B → Type 0) (xs : List A) (n : ℕ) → n ≤ length xs → All P (map f xs) → All P (map f (take n xs))
all-front f P xs n le all = λ k d lt.
    let count : length (map f (take n xs)) ≡ n = length-map (take n xs) f ∙ length-take-le n xs le in
    let below : k < n = omega (arith, count, lt) in
    subst P (sym (get_or-take n (map f xs) k d below) ∙ (λ j. get_or (take-map f n xs j) k d)) (all k d (rw (length-map xs f) (omega (arith, below, le))))

-- the images of the items but the last and that of the last
pub map-last : {A B : Type 0} (f : A → B) (xs : List A) (i : ℕ) (x : A) → i + 1 ≡ length xs → x ≡ get_or xs i x → map f (take i xs) ++ f x ∷ [] ≡ map f xs
map-last f xs i x last is = sym (map-take_more f xs i x (omega (arith, last)) is) ∙ ap (map f) (take_all (i + 1) xs (omega (arith, last)))
