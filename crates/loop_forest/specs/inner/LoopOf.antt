-- What a loop of the code is, and its exits.
use Rattle.std.specs.Prelude.{◌≡◌, ℕ, ◌<◌, ◌⊎◌, List, length}
use Rattle.std.specs.List.{Contains}
use Rattle.flow_graph.specs.Graph.{GraphOf, HasEdge, IsRising}
use Rattle.loop_forest.specs.Loops.{IsBackEdge, IsHead, InLoop}

-- exactly the sources of the back edges to h
pub record AreBackTo (g : GraphOf) (e h : ℕ) (backs : List ℕ) : Type 0 where
  pub back : (u : ℕ) → Contains backs u → IsBackEdge (HasEdge g) e u h
  pub all : (u : ℕ) → IsBackEdge (HasEdge g) e u h → Contains backs u
  pub within : (u : ℕ) → Contains backs u → u < length g.addrs

-- the head or one of the nodes
abbrev pub IsIn : ℕ → List ℕ → ℕ → Type 0
IsIn head nodes x = (x ≡ head) ⊎ Contains nodes x

pub record IsLoopOf (g : GraphOf) (e h head : ℕ) (nodes : List ℕ) : Type 0 where
  pub head_is : head ≡ h
  pub is_head : IsHead (HasEdge g) e h
  pub inside : (x : ℕ) → InLoop (HasEdge g) e h x → IsIn h nodes x
  pub only : (x : ℕ) → IsIn h nodes x → InLoop (HasEdge g) e h x
  pub within : (x : ℕ) → Contains nodes x → x < length g.addrs

-- an edge from inside leads to v, which is outside
pub record LeadsOut (g : GraphOf) (head : ℕ) (nodes : List ℕ) (v : ℕ) : Type 0 where
  pub from : ℕ
  pub inside : IsIn head nodes from
  pub edge : HasEdge g from v
  pub outside : IsIn head nodes v → ⊥

-- the exits grow by those to which edges from x lead
pub record NotesExits (g : GraphOf) (head : ℕ) (nodes : List ℕ) (x : ℕ) (old exits : List ℕ) : Type 0 where
  pub kept : (v : ℕ) → Contains old v → Contains exits v
  pub added : (v : ℕ) → HasEdge g x v → (IsIn head nodes v → ⊥) → Contains exits v
  pub only : (v : ℕ) → Contains exits v → Contains old v ⊎ (HasEdge g x v × (IsIn head nodes v → ⊥))

-- exactly the exits, rising
pub record AreExits (g : GraphOf) (head : ℕ) (nodes exits : List ℕ) : Type 0 where
  pub exit : (v : ℕ) → Contains exits v → LeadsOut g head nodes v
  pub all : (v : ℕ) → LeadsOut g head nodes v → Contains exits v
  pub rising : IsRising exits
