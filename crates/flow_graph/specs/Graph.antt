-- What a graph holds, and which graph is that of the code reached from an entry.
use Rattle.std.specs.Prelude.{◌≡◌, ℕ, ◌+◌, ◌<◌, ◌≤◌, ◌==◌, Bool, List, [], ◌∷◌, ◌++◌, length, slice_index, if◌then◌else◌, Ok, Some, map}
use Rattle.std.specs.List.{Contains}
use Rattle.rv_words.specs.Bytes.{Bytes}
use Rattle.rv_decode.specs.declared.instruction.Instr.{Instr}
use Rattle.flow_graph.specs.declared.outside.FlowFault.{FlowFault}
use Rattle.flow_graph.specs.declared.outside.FlowFault.TheVariants.{Outside, NoMemory}
use Rattle.rvc.specs.Number.{number_in}
use Rattle.flow_graph.specs.Flow.{look, next, Next}
use Rattle.flow_graph.specs.Walks.{Reaches}
use Rattle.flow_graph.specs.Reach.{IsReach, IsFault, reach_limit}

-- the number of the entry's node, the address, the parcel or word and the instruction of each node, and the edges between nodes
pub record GraphOf : Type 0 where
  pub entry : ℕ
  pub addrs : List ℕ
  pub numbers : List ℕ
  pub instrs : List Instr
  pub edges : List (ℕ × ℕ)

-- the far ends of the edges from n, in their order
abbrev pub succs_of : List (ℕ × ℕ) → ℕ → List ℕ
succs_of [] n = []
succs_of (e ∷ es) n = if e.0 == n then e.1 ∷ succs_of es n else succs_of es n

-- the far ends of the edges to n, in their order
abbrev pub preds_of : List (ℕ × ℕ) → ℕ → List ℕ
preds_of [] n = []
preds_of (e ∷ es) n = if e.1 == n then e.0 ∷ preds_of es n else preds_of es n

-- there is an edge from node u to node v
abbrev pub HasEdge : GraphOf → ℕ → ℕ → Type 0
HasEdge g u v = Contains (succs_of g.edges u) v

-- each number is below those after it
pub record IsRising (ns : List ℕ) : Type 0 where
  pub below : (j k : ℕ) → j < k → k < length ns → slice_index ns j < slice_index ns k

-- the place of an address among these
abbrev pub number : List ℕ → ℕ → ℕ
number [] a = 0
number (b ∷ bs) a = if a == b then 0 else number bs a + 1

abbrev pub edge_to : List ℕ → ℕ → ℕ → ℕ × ℕ
edge_to all n b = (n, number all b)

-- the edges of the nodes from n on, which have these addresses, where all nodes have those: from each node to its successors
abbrev pub edges_from : (ℕ → List ℕ) → List ℕ → ℕ → List ℕ → List (ℕ × ℕ)
edges_from leads all n [] = []
edges_from leads all n (a ∷ rest) = map (edge_to all n) (leads a) ++ edges_from leads all (n + 1) rest

-- the graph of the code that is reached from e, of one function or of linked ones: it has no fault, the nodes are its addresses, rising, and the edges its successors
pub record IsGraphOf (linked : Bool) (code : Bytes) (e : ℕ) (g : GraphOf) : Type 0 where
  pub reach : IsReach (Next linked code) e g.addrs
  pub rising : IsRising g.addrs
  pub few : length g.addrs ≤ reach_limit
  pub numbers : map (λ w. Some w) g.numbers ≡ map (number_in code) g.addrs
  pub instrs : map (λ i. Ok i) g.instrs ≡ map (look linked code) g.addrs
  pub edges : g.edges ≡ edges_from (next linked code) g.addrs 0 g.addrs
  pub entry : g.entry ≡ number g.addrs e

-- why there is no graph: a fault of the code, or no memory
abbrev pub IsRefused : Bool → Bytes → ℕ → FlowFault → Type 0
IsRefused linked code e (Outside why) = IsFault linked code e why
IsRefused linked code e NoMemory = Unit {0}

-- what holds of each graph: its nodes are reached from its entry, at rising addresses, and its edges are between nodes
pub record IsFlow (g : GraphOf) : Type 0 where
  pub entry : g.entry < length g.addrs
  pub few : length g.addrs ≤ reach_limit
  pub rising : IsRising g.addrs
  pub as_long : length g.instrs ≡ length g.addrs
  pub as_many : length g.numbers ≡ length g.addrs
  pub source : (u v : ℕ) → HasEdge g u v → u < length g.addrs
  pub within : (u v : ℕ) → HasEdge g u v → v < length g.addrs
  pub reached : (n : ℕ) → n < length g.addrs → Reaches (HasEdge g) g.entry n
