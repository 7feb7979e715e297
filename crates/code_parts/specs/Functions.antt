-- The functions of an entry, each with its graph and its loops.
use Rattle.std.specs.Prelude.{◌≡◌, ℕ, ◌-◌, ◌<◌, ◌≤◌, true, List, length, map, slice_index}
use Rattle.std.specs.List.{All, sum_by}
use Rattle.rv_words.specs.Bytes.{Bytes}
use Rattle.flow_graph.specs.Reach.{IsReach, reach_limit}
use Rattle.flow_graph.specs.Graph.{IsGraphOf}
use Rattle.loop_forest.specs.Forest.{IsForestOf}
use Rattle.code_parts.specs.Calls.{CallsTo}
use Rattle.code_parts.specs.declared.linked_function.Function.{Function}

-- as many functions are reached from f by calls, f among them
pub record IsRank (code : Bytes) (f n : ℕ) : Type 0 where
  pub functions : List ℕ
  pub reached : IsReach (CallsTo code) f functions
  pub many : length functions ≡ n

-- the rank, the graph and the loops of the function are those of its entry, where a call is no fault and comes back
pub record IsLinkedFunction (code : Bytes) (f : Function) : Type 0 where
  pub rank : IsRank code f.entry f.rank
  pub graph : IsGraphOf true code f.entry f.graph
  pub forest : IsForestOf f.graph f.forest

-- the entries of functions
abbrev pub entries_of : List Function → List ℕ
entries_of fs = map (λ f. f.entry) fs

-- how many instructions they have
abbrev pub size_of : Function → ℕ
size_of f = length f.graph.addrs

-- The functions of e, each once, with their graphs and loops. What a function calls stands before it, and the one at e last. Together they
-- have at most 1,024 instructions.
pub record AreFunctions (code : Bytes) (e : ℕ) (fs : List Function) : Type 0 where
  pub functions : IsReach (CallsTo code) e (entries_of fs)
  pub linked : All (IsLinkedFunction code) fs
  pub before : (j k : ℕ) → j < length fs → k < length fs → CallsTo code (slice_index (entries_of fs) k) (slice_index (entries_of fs) j) → j < k
  pub last : slice_index (entries_of fs) (length fs - 1) ≡ e
  pub few : sum_by size_of fs ≤ reach_limit
