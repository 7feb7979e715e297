-- Edges of a graph between the addresses of its nodes.
use Rattle.std.specs.Prelude.{◌≡◌, ℕ, slice_index}
use Rattle.flow_graph.specs.Graph.{GraphOf, HasEdge}

-- an edge leads from the node at a to the node at b
pub record GoesTo (g : GraphOf) (a b : ℕ) : Type 0 where
  pub from : ℕ
  pub to : ℕ
  pub edge : HasEdge g from to
  pub at_from : slice_index g.addrs from ≡ a
  pub at_to : slice_index g.addrs to ≡ b

-- the address of the entry
abbrev pub entry_at : GraphOf → ℕ
entry_at g = slice_index g.addrs g.entry
