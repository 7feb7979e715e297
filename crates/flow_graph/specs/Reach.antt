-- The addresses that are reached.
use Rattle.std.specs.Prelude.{◌≡◌, ℕ, ◌<◌, ◌≢◌, Bool, List, length, slice_index, Err}
use Rattle.std.specs.List.{Contains}
use Rattle.rv_words.specs.Bytes.{Bytes}
use Rattle.flow_graph.specs.Flow.{look, Next}
use Rattle.flow_graph.specs.Walks.{Reaches}
use Rattle.flow_graph.specs.declared.outside.Outside.{Outside}
use Rattle.flow_graph.specs.declared.outside.Outside.TheVariants.{TooLarge}

-- how many addresses a graph may have
abbrev pub reach_limit : ℕ
reach_limit = 1024

-- exactly the reached addresses, each once
pub record IsReach (E : ℕ → ℕ → Type 0) (e : ℕ) (N : List ℕ) : Type 0 where
  pub reached : (x : ℕ) → Contains N x → Reaches E e x
  pub all : (x : ℕ) → Reaches E e x → Contains N x
  pub different : (j k : ℕ) → j < k → k < length N → slice_index N j ≢ slice_index N k

-- more than n different addresses are reached
pub record ReachesOver (E : ℕ → ℕ → Type 0) (e n : ℕ) : Type 0 where
  pub some : List ℕ
  pub over : n < length some
  pub reached : (x : ℕ) → Contains some x → Reaches E e x
  pub different : (j k : ℕ) → j < k → k < length some → slice_index some j ≢ slice_index some k

-- the least reached address that has a fault, with that fault
pub record IsLeastFault (linked : Bool) (code : Bytes) (e a : ℕ) (why : Outside) : Type 0 where
  pub reached : Reaches (Next linked code) e a
  pub fault : look linked code a ≡ Err why
  pub least : (b : ℕ) → Reaches (Next linked code) e b → b < a → (other : Outside) → look linked code b ≡ Err other → ⊥

-- the first fault of the code that is reached from e: that there is too much of it, else that of the least address
pub data IsFault (linked : Bool) (code : Bytes) (e : ℕ) : Outside → Type 0 where
  Large : ReachesOver (Next linked code) e reach_limit → IsFault linked code e TooLarge
  Least : {a : ℕ} {why : Outside} → (ReachesOver (Next linked code) e reach_limit → ⊥) → IsLeastFault linked code e a why → IsFault linked code e why
