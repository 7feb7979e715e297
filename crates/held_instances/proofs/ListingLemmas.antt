-- An index of what is listed grows from the end.
use Rattle.std.proofs.Common.{◌≡◌, ℕ, zero, suc, ◌+◌, ◌<◌, Bool, cond, List, [], ◌∷◌, length, drop, get_or, Option, Some, ap, subst, ◌∙◌, arith}
use Rattle.std.specs.Prelude.{◌==◌}
use Rattle.std.specs.Cmp.{unsigned_tied}
use Rattle.std.specs.BTreeMap.{BTreeMap, Updates, get}
use Rattle.std.specs.Ordering.{nat_cmp}
use Rattle.held_instances.specs.inner.Listings.{IsIndexOf}

module _ (m n : BTreeMap ℕ ℕ) where
  indexed-at : (l : List (ℕ × ℕ)) (k : ℕ) → k < length l → IsIndexOf (drop (suc k) l) m → Updates nat_cmp m n (get_or l k (0, 0)).0 (Some (get_or l k (0, 0)).1)
      → IsIndexOf (drop k l) n
  indexed-at [] k low behind update = absurd (omega (arith, low))
  indexed-at (p ∷ l) zero low behind update = record {
    each = λ i.
        update.0 i ∙ ap (λ (b : Bool). cond b (Some p.1) (get nat_cmp m i)) (unsigned_tied p.0 i) ∙ ap (λ (o : Option ℕ). cond (p.0 == i) (Some p.1) o) (behind.each i);
  }
  indexed-at (p ∷ l) (suc k) low behind update = indexed-at l k (omega (arith, low)) behind update

  -- what is listed at a place is put into an index of what is listed behind it
  pub indexed_place : (l : List (ℕ × ℕ)) (k : ℕ) → k < length l → IsIndexOf (drop (k + 1) l) m → Updates nat_cmp m n (get_or l k (0, 0)).0 (Some (get_or l k (0, 0)).1)
      → IsIndexOf (drop k l) n
  indexed_place l k low behind =
      let next : k + 1 ≡ suc k = omega (arith) in
      indexed-at l k low (subst (λ (j : ℕ). IsIndexOf (drop j l) m) next behind)
