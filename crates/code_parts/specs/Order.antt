-- The order of a graph's parts: each stands after those that its definition calls.
use Rattle.std.specs.Prelude.{◌≡◌, ◌↔◌, ◌⊎◌, ℕ, ◌+◌, ◌*◌, ◌<◌, Option, Some, None, List, slice_get}
use Rattle.std.specs.List.{Contains}
use Rattle.code_parts.specs.declared.part.Part.{Part}
use Rattle.code_parts.specs.declared.part.Part.TheVariants.{Loop, Rest}
use Rattle.code_parts.specs.Bodies.{Flow, own}
use Rattle.code_parts.specs.Graph.{IsPart}

-- twice the post-order number of the part's first node, and one more for a rest
abbrev pub weight : Flow → (ℕ → ℕ) → Part → ℕ
weight f left (Loop l) = 2 * left (f.head l)
weight f left (Rest r n) = 2 * left n + 1

-- p is of a deeper region than q, or of one as deep, and then it weighs less
abbrev pub StandsBefore : Flow → (ℕ → ℕ) → (Option ℕ → ℕ) → Part → Part → Type 0
StandsBefore f left depth p q = (depth (own q) < depth (own p)) ⊎ ((depth (own p) ≡ depth (own q)) × (weight f left p < weight f left q))

-- The parts of a graph in their order, where its nodes have these post-order numbers. The depth of a region is the number of loops
-- around what is in it, its own included.
pub record AreParts (f : Flow) (left : ℕ → ℕ) (parts : List Part) : Type 0 where
  pub depth : Option ℕ → ℕ
  pub outside : depth None ≡ 0
  pub deeper : (l : ℕ) → l < f.loops → depth (Some l) ≡ depth (f.around (f.head l)) + 1
  pub all : (p : Part) → Contains parts p ↔ IsPart f p
  pub ordered : (j k : ℕ) (p q : Part) → j < k → slice_get parts j ≡ Some p → slice_get parts k ≡ Some q → StandsBefore f left depth p q
