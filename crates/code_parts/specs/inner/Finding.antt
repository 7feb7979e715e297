-- What a search for functions finds.
use Rattle.std.specs.Prelude.{◌≡◌, ◌⊎◌, ◌↔◌, ℕ, ◌<◌, Bool, true, false, if◌then◌else◌, nat_lt, IsTrue, Option, None, Some, Result, Ok, Err, List, [], ◌∷◌, length, map, slice_index, take}
use Rattle.std.specs.List.{All, Contains}
use Rattle.rv_words.specs.Bytes.{Bytes}
use Rattle.rv_decode.specs.declared.instruction.Instr.{Instr}
use Rattle.flow_graph.specs.Flow.{look}
use Rattle.flow_graph.specs.Reach.{IsReach, IsFault, reach_limit}
use Rattle.flow_graph.specs.Graph.{GraphOf, IsGraphOf, IsRising}
use Rattle.flow_graph.specs.declared.outside.Outside.{Outside as Fault}
use Rattle.flow_graph.specs.declared.outside.Outside.TheVariants.{TooLarge}
use Rattle.flow_graph.specs.declared.outside.FlowFault.{FlowFault}
use Rattle.flow_graph.specs.declared.outside.FlowFault.TheVariants as flow
use Rattle.loop_forest.specs.Forest.{IsForestFault, IsForestOf}
use Rattle.code_parts.specs.Calls.{CallsTo, CallsBack, call_at}
use Rattle.code_parts.specs.Causes.{IsFaulty, IsLeast, SizesOver}
use Rattle.code_parts.specs.Functions.{IsRank, entries_of}
use Rattle.code_parts.specs.declared.call_fault.LinkWhy.TheVariants.{Outside, Recursive}
use Rattle.code_parts.specs.declared.call_fault.CallGraphFault.{CallGraphFault}
use Rattle.code_parts.specs.declared.call_fault.CallGraphFault.TheVariants.{Refused, NoMemory}
use Rattle.code_parts.specs.declared.linked_function.Function.{Function}
use Rattle.code_parts.specs.declared.call_search.Found.{Found}

-- the functions from N on: all stay in their places, this one is there, and nothing else is new
pub record NotesCallee (callee : Option ℕ) (N N' : List ℕ) : Type 0 where
  pub kept : (k : ℕ) → k < length N → (k < length N') × (slice_index N' k ≡ slice_index N k)
  pub added : (t : ℕ) → callee ≡ Some t → Contains N' t
  pub only : (x : ℕ) → Contains N' x → Contains N x ⊎ (callee ≡ Some x)

-- the functions from N on: all stay in their places, what is called at the first n of these addresses is there, and nothing else is new
pub record NotesCallees (code : Bytes) (addrs : List ℕ) (n : ℕ) (N N' : List ℕ) : Type 0 where
  pub kept : (k : ℕ) → k < length N → (k < length N') × (slice_index N' k ≡ slice_index N k)
  pub added : (k t : ℕ) → k < n → call_at code (slice_index addrs k) ≡ Some t → Contains N' t
  pub only : (x : ℕ) → Contains N' x → Contains N x ⊎ ((k : ℕ) × (k < n) × (call_at code (slice_index addrs k) ≡ Some x))

-- at one of the first n addresses t is called
abbrev pub IsCalledAt : Bytes → List ℕ → ℕ → ℕ → Type 0
IsCalledAt code addrs n t = (k : ℕ) × (k < n) × (call_at code (slice_index addrs k) ≡ Some t)

-- ---- the least address with a fault

abbrev pub is_refused : Result Instr Fault → Bool
is_refused (Ok i) = false
is_refused (Err why) = true

abbrev pub lower : ℕ → Option ℕ → Option ℕ
lower a None = Some a
lower a (Some b) = if nat_lt a b then Some a else Some b

-- the lower of an address and the least one so far, where the address has a fault
abbrev pub lowest_by : Bool → ℕ → Option ℕ → Option ℕ
lowest_by true a least = lower a least
lowest_by false a least = least

abbrev pub lowest_with : Bytes → ℕ → Option ℕ → Option ℕ
lowest_with code a least = lowest_by (is_refused (look true code a)) a least

-- .. of many addresses
abbrev pub lowest : Bytes → List ℕ → Option ℕ → Option ℕ
lowest code [] least = least
lowest code (a ∷ addrs) least = lowest code addrs (lowest_with code a least)

abbrev pub fault_of : Result Instr Fault → Option Fault
fault_of (Ok i) = None
fault_of (Err why) = Some why

-- the fault at an address, if there is one
abbrev pub fault_at : Bytes → Option ℕ → Option Fault
fault_at code None = None
fault_at code (Some a) = fault_of (look true code a)

-- the least number with P, if there is one
abbrev pub IsLowest : (ℕ → Type 0) → Option ℕ → Type 0
IsLowest P None = (x : ℕ) → P x → ⊥
IsLowest P (Some a) = IsLeast P a

-- ---- what is found

-- the functions of e, whose sizes don't sum to too much; whether one of them calls e; and the least address of theirs with a fault
pub record IsFound (code : Bytes) (e : ℕ) (f : Found) : Type 0 where
  pub functions : IsReach (CallsTo code) e f.functions
  pub small : SizesOver code e reach_limit → ⊥
  pub called : IsTrue f.called ↔ CallsBack code e
  pub fault : IsLowest (IsFaulty code e) f.fault

-- the functions of e, rising; their sizes don't sum to too much, and none of their addresses has a fault
pub record IsFine (code : Bytes) (e : ℕ) (entries : List ℕ) : Type 0 where
  pub functions : IsReach (CallsTo code) e entries
  pub rising : IsRising entries
  pub small : SizesOver code e reach_limit → ⊥
  pub fine : (a : ℕ) → IsFaulty code e a → ⊥

-- the rank of a function that doesn't call itself
pub record IsRanked (code : Bytes) (f n : ℕ) : Type 0 where
  pub rank : IsRank code f n
  pub once : CallsBack code f → ⊥

-- why a function has no such rank
abbrev pub IsUnranked : Bytes → ℕ → CallGraphFault → Type 0
IsUnranked code f (Refused why) = ((why ≡ Outside TooLarge) × SizesOver code f reach_limit) ⊎ ((why ≡ Recursive f) × CallsBack code f)
IsUnranked code f NoMemory = Unit {0}

-- the ranks of these functions
pub record AreRanks (code : Bytes) (entries ranks : List ℕ) (n : ℕ) : Type 0 where
  pub as_many : length ranks ≡ n
  pub each : (k : ℕ) → k < n → IsRanked code (slice_index entries k) (slice_index ranks k)

-- why a function has no graph, or no forest
abbrev pub IsNoFunction : Bytes → ℕ → FlowFault → Type 0
IsNoFunction code f (flow.Outside why) = IsFault true code f why ⊎ ((g : GraphOf) × IsGraphOf true code f g × IsForestFault g why)
IsNoFunction code f flow.NoMemory = Unit {0}

-- the graph and the loops of the function are those of the code that is reached from its entry
pub record HasFlow (code : Bytes) (f : Function) : Type 0 where
  pub graph : IsGraphOf true code f.entry f.graph
  pub forest : IsForestOf f.graph f.forest

-- functions with the first n of these entries and ranks, each with its graph and its loops
pub record AreMade (code : Bytes) (entries ranks : List ℕ) (fs : List Function) (n : ℕ) : Type 0 where
  pub as_many : length fs ≡ n
  pub entered : entries_of fs ≡ take n entries
  pub ranked : map (λ f. f.rank) fs ≡ take n ranks
  pub each : All (HasFlow code) fs

abbrev pub refusal : FlowFault → CallGraphFault
refusal (flow.Outside why) = Refused (Outside why)
refusal flow.NoMemory = NoMemory
