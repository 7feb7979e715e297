-- Parts with what their order goes by.
use Rattle.std.specs.Prelude.{◌≡◌, ℕ, zero, suc, ◌+◌, ◌<◌, ◌≤◌, if◌then◌else◌, List, [], ◌∷◌, ◌++◌, length, slice_index_or}
use Rattle.std.specs.List.Sorted.{IsNonDecreasingBy}
use Rattle.loop_forest.specs.Forest.{ForestOf, depth_of, number_of}
use Rattle.code_parts.specs.declared.part.Part.{Part}
use Rattle.code_parts.specs.declared.part.Part.TheVariants.{Loop, Rest}
use Rattle.code_parts.specs.declared.order.Ranked.{Ranked}
use Rattle.code_parts.specs.Bodies.{Flow, own}
use Rattle.code_parts.specs.Graph.{IsPart}
use Rattle.code_parts.specs.Order.{weight}

-- the first loops as parts, and the rests from the first cuts on
abbrev pub loops_to : ℕ → List Part
loops_to zero = []
loops_to (suc l) = loops_to l ++ Loop l ∷ []

abbrev pub rests_to : Flow → ℕ → List Part
rests_to f zero = []
rests_to f (suc n) = rests_to f n ++ (if f.is_cut n then Rest (f.around n) n ∷ [] else [])

-- a part's height falls as its depth rises
pub record IsRanked (fl : Flow) (f : ForestOf) (r : Ranked) : Type 0 where
  pub part : IsPart fl r.part
  pub height : r.height + depth_of f (own r.part) ≡ length f.heads
  pub weight_is : r.weight ≡ weight fl (number_of f) r.part

-- heights rise, and weights between neighbours of one height
pub record AreSorted (rs : List Ranked) : Type 0 where
  pub heights : IsNonDecreasingBy (λ r. r.height) rs
  pub weights : (k : ℕ) (d : Ranked) → k + 1 < length rs → (slice_index_or rs k d).height ≡ (slice_index_or rs (k + 1) d).height → (slice_index_or rs k d).weight ≤ (slice_index_or rs (k + 1) d).weight
