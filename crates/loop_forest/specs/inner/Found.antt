-- The loops of a graph, as they are found.
use Rattle.std.specs.Prelude.{ℕ, ◌<◌, ◌≤◌, List, length, map}
use Rattle.std.specs.List.{All, Contains}
use Rattle.flow_graph.specs.Graph.{GraphOf, HasEdge, IsRising}
use Rattle.loop_forest.specs.Loops.{IsHead}
use Rattle.loop_forest.specs.Regions.{HasManyExits, loop_exit_limit}
use Rattle.loop_forest.specs.inner.LoopOf.{AreExits, IsLoopOf}
use Rattle.loop_forest.specs.declared.heads.LoopWithExits.{LoopWithExits}
use Rattle.loop_forest.specs.declared.heads.Found.{Found}
use Rattle.loop_forest.specs.declared.heads.Found.TheVariants.{Loops, TooManyExits}

pub record IsLooped (g : GraphOf) (l : LoopWithExits) : Type 0 where
  pub body : IsLoopOf g g.entry l.body.head l.body.head l.body.nodes
  pub exits : AreExits g l.body.head l.body.nodes l.exits
  pub few : length l.exits ≤ loop_exit_limit

abbrev pub heads : List LoopWithExits → List ℕ
heads loops = map (λ l. l.body.head) loops

-- the loops of all heads below n, by rising head
pub record AreLoops (g : GraphOf) (loops : List LoopWithExits) (n : ℕ) : Type 0 where
  pub each : All (IsLooped g) loops
  pub rising : IsRising (heads loops)
  pub below : (h : ℕ) → Contains (heads loops) h → h < n
  pub all : (h : ℕ) → h < n → IsHead (HasEdge g) g.entry h → Contains (heads loops) h

abbrev pub IsFound : GraphOf → Found → Type 0
IsFound g (Loops loops) = AreLoops g loops.items (length g.addrs)
IsFound g (TooManyExits h) = HasManyExits (HasEdge g) g.entry h
