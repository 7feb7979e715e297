-- Code that is joined, one graph after the other.
use Rattle.std.specs.Prelude.{◌≡◌, List}
use Rattle.rv_words.specs.Bytes.{over}
use Rattle.rv_words.specs.declared.range.Range.{Range}
use Rattle.rv_words.specs.Ranges.{AreRanges, range_bytes}
use Rattle.flow_graph.specs.Graph.{GraphOf}
use Rattle.code_parts.specs.Flows.{AreCodeOf}

-- the new ranges are the old ones, and those of the graph's instructions
pub record IsJoined (g : GraphOf) (old new : List Range) : Type 0 where
  pub more : List Range
  pub is : AreCodeOf g more
  pub order : AreRanges new
  pub bytes : range_bytes new ≡ over (range_bytes old) (range_bytes more)
