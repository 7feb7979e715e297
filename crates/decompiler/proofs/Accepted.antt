-- Items for names are accepted, and have a text.
use Rattle.std.proofs.Common.{ℕ, List, [], ◌∷◌, map}
use Rattle.std.specs.List.{AllByRecursion, AllZip}
use Rattle.verdicts.specs.Accepts.{IsAcceptedBy}
use Rattle.path_walk.specs.declared.item.Item.{Item}
use Rattle.proof_text.specs.Proofs.{IsProofIn}
use Rattle.decompiler.specs.Listing.{IsItemBy, ItemForm, proof_of}

module _ (form : ItemForm) (file : List ℕ) where
  pub all-accepted : (names : List (List ℕ)) (items : List Item) → AllZip (IsItemBy form file) names items → AllByRecursion (IsAcceptedBy form.rule file) (map proof_of items)
  all-accepted [] [] h = tt
  all-accepted [] (y ∷ ys) h = absurd h
  all-accepted (x ∷ xs) [] h = absurd h
  all-accepted (x ∷ xs) (y ∷ ys) h = (h.0.accepted, all-accepted xs ys h.1)

  pub all-printed : (names : List (List ℕ)) (items : List Item) → AllZip (IsItemBy form file) names items → AllByRecursion (IsProofIn form.version) (map proof_of items)
  all-printed [] [] h = tt
  all-printed [] (y ∷ ys) h = absurd h
  all-printed (x ∷ xs) [] h = absurd h
  all-printed (x ∷ xs) (y ∷ ys) h = (h.0.text, all-printed xs ys h.1)
