-- Nodes of a part's region, and the cuts that they lead to.
use Rattle.std.specs.Prelude.{◌≡◌, ℕ, ◌<◌, true, false}
use Rattle.code_parts.specs.declared.part.Part.{Part}
use Rattle.code_parts.specs.Bodies.{Flow, own}
use Rattle.code_parts.specs.Graph.{IsGraph, IsPlaced}

-- the node is of the part's own region, and fewer instructions than `room` stand between it and the next cuts
pub record IsNear (f : Flow) (p : Part) (room n : ℕ) : Type 0 where
  pub graph : IsGraph f
  pub node : n < f.nodes
  pub region : graph.inner n ≡ own p
  pub near : graph.rank n < room

-- the node is a cut at which the part ends, or from which it calls the rest of its region
pub record IsEnd (f : Flow) (p : Part) (n : ℕ) : Type 0 where
  pub node : n < f.nodes
  pub cut : f.is_cut n ≡ true
  pub placed : IsPlaced f (own p) n

-- an edge of the part's region leads to the node
pub record IsNext (f : Flow) (p : Part) (room n : ℕ) : Type 0 where
  pub node : n < f.nodes
  pub end : f.is_cut n ≡ true → IsEnd f p n
  pub inside : f.is_cut n ≡ false → IsNear f p room n
