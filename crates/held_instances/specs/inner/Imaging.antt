-- Images that are made one after the other: which are being made, and how many steps it takes.
use Rattle.std.specs.Prelude.{◌≡◌, ◌==◌, ℕ, ◌+◌, ◌*◌, ◌≤◌, List, Option, Some, None, IsSome, cond, length}
use Rattle.std.specs.List.Sorted.{IsStrictlySortedBy}
use Rattle.std.specs.Map.{keys_of}
use Rattle.std.specs.Ordering.{nat_cmp}
use Rattle.term_arena.specs.declared.node.Node.{Node}
use Rattle.term_arena.specs.Arena.{Tree}
use Rattle.held_terms.specs.Subterms.{IsIn}
use Rattle.held_instances.specs.Image.{Known, image_at}

-- the numbers rise
abbrev pub IsOrdered : Known → Type 0
IsOrdered known = IsStrictlySortedBy nat_cmp (keys_of known)

-- that is put in at the number x, and all else stays
abbrev pub Updates : Known → Known → ℕ → Option ℕ → Type 0
Updates old new x v = (k : ℕ) → image_at new k ≡ cond (k == x) (Some v) (image_at old k)

-- no image of a number below that one is being made
pub record IsFree (known : Known) (n : ℕ) : Type 0 where
  pub above : (k : ℕ) → image_at known k ≡ Some None → n ≤ k

-- none at all
pub record AreMade (known : Known) : Type 0 where
  pub none : (k : ℕ) → image_at known k ≡ Some None → ⊥

-- none that wasn't being made before
pub record AreEnded (old new : Known) : Type 0 where
  pub before : (k : ℕ) → image_at new k ≡ Some None → image_at old k ≡ Some None

-- the tree of each number that is asked for is in the list
pub record AreAsked (ns : List Node) (ts : List Tree) (known : Known) : Type 0 where
  pub each : (k : ℕ) → IsSome (image_at known k) → IsIn ns ts k

-- two steps at most for each number that came, and all are in each list that P asks for
pub record Imaged (ms ns : List Node) (P : List Tree → Type 0) (old new : Known) (s t : ℕ) : Type 0 where
  pub steps : t + 2 * length old ≤ s + 2 * length new
  pub ordered : IsOrdered old → IsOrdered new
  pub inside : (ts : List Tree) → P ts → AreAsked ms ts old → AreAsked ns ts new
