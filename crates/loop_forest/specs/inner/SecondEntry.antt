-- The walk of a second search.
use Rattle.std.specs.Prelude.{ℕ, ◌≢◌, List}
use Rattle.flow_graph.specs.Graph.{GraphOf, HasEdge}
use Rattle.loop_forest.specs.Cycles.{Enters, last_of}

-- w enters the cycle from e at a node other than h
pub record EntersBeside (g : GraphOf) (cycle : List ℕ) (e h : ℕ) (w : List ℕ) : Type 0 where
  pub enters : Enters (HasEdge g) cycle e w
  pub beside : last_of w ≢ h
