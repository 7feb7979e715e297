-- Where the facts of a way stand.
use Rattle.std.specs.Prelude.{◌≡◌, ◌⊎◌, ℕ, ◌+◌, ◌<◌, ◌≤◌, List, Option, Some, length, slice_get}
use Rattle.std.specs.Ordering.{is_eq, nat_cmp}
use Rattle.std.specs.Map.{lookup}
use Rattle.std.specs.Cmp.Lexicographic.{slice_cmp}
use Rattle.held_terms.specs.declared.held.HeldFact.{HeldFact}
use Rattle.held_terms.specs.inner.Numbers.{numbers_of}

-- what entries have at a list of numbers, where `items` are a key's numbers
abbrev pub found_at : {V : Type 0} → (V → List ℕ) → List (V × ℕ) → List ℕ → Option ℕ
found_at items entries k = lookup (λ v. is_eq (slice_cmp nat_cmp k (items v))) entries

-- the second has the place at these numbers, and what the first has at others
pub record HasPlace (old new : List ℕ → Option ℕ) (numbers : List ℕ) (place : ℕ) : Type 0 where
  pub here : new numbers ≡ Some place
  pub others : (k : List ℕ) → (k ≡ numbers) ⊎ (new k ≡ old k)

-- the fact is found, at one of the first n places
pub record IsPlaced (facts : List HeldFact) (at : List ℕ → Option ℕ) (n : ℕ) (f : HeldFact) : Type 0 where
  pub place : ℕ
  pub low : place < n
  pub found : at (numbers_of f) ≡ Some place
  pub there : slice_get facts place ≡ Some f

-- each of the first n facts is found, not behind its own place
pub record IsIndexed (facts : List HeldFact) (n : ℕ) (at : List ℕ → Option ℕ) : Type 0 where
  pub few : n ≤ length facts
  pub each : (i : ℕ) (f : HeldFact) → i < n → slice_get facts i ≡ Some f → IsPlaced facts at (i + 1) f
