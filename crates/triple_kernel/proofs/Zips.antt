-- A relation of the images of two lists' items, place by place.
use Rattle.std.proofs.Common.{◌≡◌, ℕ, ◌+◌, ◌<◌, List, length, get_or, map, take, sym, ap, ◌∙◌}
use Rattle.std.specs.List.{AllZip}
use Rattle.std.proofs.lemmas.List.{get_or-map, length-map}
use Rattle.std.proofs.lemmas.List.Elements.{AllZip-push, AllZip-get_or}
use Rattle.tailrec_lang.proofs.Lists.{map-take_more}

module _ {A B : Type 0} (f : A → B) (R : B → B → Type 0) (xs ys : List A) (i : ℕ) (x y : A) (in_xs : i < length xs) (x_is : x ≡ get_or xs i x) (y_is : y ≡ get_or ys i y) where
  -- of the first i items, and of the next two
  pub zip-more : i < length ys → AllZip R (map f (take i xs)) (map f (take i ys)) → R (f x) (f y) → AllZip R (map f (take (i + 1) xs)) (map f (take (i + 1) ys))
  zip-more in_ys before here =
      rw (map-take_more f xs i x in_xs x_is, map-take_more f ys i y in_ys y_is)
      (AllZip-push R (map f (take i xs)) (map f (take i ys)) (f x) (f y) before here)

  -- of all items, so of those at i
  pub zip-at : i < length ys → AllZip R (map f xs) (map f ys) → R (f x) (f y)
  zip-at in_ys all =
      let here = AllZip-get_or R (map f xs) (map f ys) i (f x) (f y) all (rw length-map in_xs) in
      let at_xs : get_or (map f xs) i (f x) ≡ f x = get_or-map f xs i x (f x) in_xs ∙ ap f (sym x_is) in
      let at_ys : get_or (map f ys) i (f y) ≡ f y = get_or-map f ys i y (f y) in_ys ∙ ap f (sym y_is) in
      rw (← at_xs, ← at_ys) here
