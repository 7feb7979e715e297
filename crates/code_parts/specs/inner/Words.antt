-- The code of the first nodes of a graph.
use Rattle.std.specs.Prelude.{◌≡◌, ℕ, ◌<◌, List, Some}
use Rattle.rv_words.specs.declared.range.Range.{Range}
use Rattle.rv_words.specs.Ranges.{AreRanges, range_bytes}
use Rattle.sep_assert.specs.Code.{IsWithin}
use Rattle.flow_graph.specs.Graph.{GraphOf}
use Rattle.code_parts.specs.Flows.{node_code}

pub record AreCodeTo (g : GraphOf) (count : ℕ) (ranges : List Range) : Type 0 where
  pub order : AreRanges ranges
  pub each : (n : ℕ) → n < count → IsWithin (node_code g n) (range_bytes ranges)
  pub only : (a b : ℕ) → range_bytes ranges a ≡ Some b → (n : ℕ) × (n < count) × (node_code g n a ≡ Some b)
