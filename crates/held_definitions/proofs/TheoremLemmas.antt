-- Theorems over the numbers of an arena that grows.
use Rattle.std.proofs.Common.{◌≡◌, Option, Some, None, List, refl, ap}
use Rattle.std.specs.Prelude.{IfSome, option_map}
use Rattle.term_arena.specs.declared.node.Node.{Node}
use Rattle.term_arena.specs.Arena.{Extends}
use Rattle.held_terms.specs.declared.held.Held.{Held}
use Rattle.held_terms.specs.Held.{IsHeldAt, triple_of}
use Rattle.held_terms.proofs.GrowthLemmas.{held_still, same_triple}
use Rattle.held_definitions.specs.Theorems.{AreHeldAt, Theorems, held_by_number, theorem_at}

-- ---- in a larger arena

module _ (ns ms : List Node) (e : Extends ns ms) where
  still : (o : Option Held) → IfSome o (λ h. IsHeldAt ns h) → IfSome o (λ h. IsHeldAt ms h)
  still None h = tt
  still (Some p) h = held_still ns ms e p h

  same : (o : Option Held) → IfSome o (λ h. IsHeldAt ns h) → option_map (triple_of ms) o ≡ option_map (triple_of ns) o
  same None h = refl
  same (Some p) h = ap Some (same_triple ns ms e p h)

  pub held_stay : (held : Theorems) → AreHeldAt ns held → AreHeldAt ms held
  held_stay held h = λ k. still (held_by_number held k) (h k)

  pub theorems_stay : (held : Theorems) → AreHeldAt ns held → theorem_at ms held ≡ theorem_at ns held
  theorems_stay held h = λ i. λ k. same (held_by_number held k) (h k) i
