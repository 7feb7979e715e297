-- Further registers, over numbers and over their terms.
use Rattle.std.proofs.Common.{◌≡◌, ℕ, false, List, Some, [], ◌∷◌, ◌==◌, ◌||◌, map, drop, refl, sym, ap, ◌∙◌}
use Rattle.std.specs.Prelude.{slice_get}
use Rattle.std.proofs.lemmas.List.{drop-map}
use Rattle.term_arena.proofs.Places.{at-map}
use Rattle.frame_compose.specs.Rules.{is_listed, further}
use Rattle.frame_compose.proofs.MapLemmas.{with, further-images}

module _ {A B : Type 0} (f : A → B) where
  -- a register's number is one of those listed, whatever the registers hold
  pub listed-same : (own : List (ℕ × A)) (r : ℕ) → is_listed (map (with f) own) r ≡ is_listed own r
  listed-same [] r = refl
  listed-same (q ∷ own) r = λ i. (q.0 == r) || listed-same own r i

module _ {A B : Type 0} (f : A → B) (own all : List (ℕ × A)) where
  -- what is further from one place on is so from another
  pub further-drop : (m n : ℕ) → further own (drop m all) ≡ further own (drop n all)
      → further (map (with f) own) (drop m (map (with f) all)) ≡ further (map (with f) own) (drop n (map (with f) all))
  further-drop m n e =
      let from = further (map (with f) own) in
      ap from (drop-map (with f) m all) ∙ further-images f own (drop m all) ∙ ap (map (with f)) e
      ∙ sym (further-images f own (drop n all)) ∙ ap from (sym (drop-map (with f) n all))

  -- what stands at a place isn't listed
  pub first-image : (k : ℕ) → ((q : ℕ × A) → slice_get all k ≡ Some q → is_listed own q.0 ≡ false)
      → (q : ℕ × B) → slice_get (map (with f) all) k ≡ Some q → is_listed (map (with f) own) q.0 ≡ false
  first-image k first q at =
      let x = at-map (with f) all k q at in
      listed-same f own q.0 ∙ (λ i. is_listed own (sym x.2 i).0) ∙ first x.0 x.1
