-- Why the functions of an entry can't be linked.
use Rattle.std.specs.Prelude.{◌≡◌, ◌≢◌, ℕ, ◌<◌, true, Err, List, length, slice_index_or}
use Rattle.std.specs.List.{Contains}
use Rattle.rv_words.specs.Bytes.{Bytes}
use Rattle.flow_graph.specs.Flow.{look, Next}
use Rattle.flow_graph.specs.Walks.{Reaches}
use Rattle.flow_graph.specs.Reach.{reach_limit}
use Rattle.flow_graph.specs.Graph.{GraphOf, IsGraphOf}
use Rattle.flow_graph.specs.declared.outside.Outside.{Outside as Fault}
use Rattle.flow_graph.specs.declared.outside.Outside.TheVariants.{TooLarge, TwoEntries, ManyExits}
use Rattle.loop_forest.specs.Cycles.{ShowsTwoEntries}
use Rattle.loop_forest.specs.Forest.{IsMany}
use Rattle.code_parts.specs.Calls.{CallsBack, IsFunction}
use Rattle.code_parts.specs.declared.call_fault.LinkWhy.{LinkWhy}
use Rattle.code_parts.specs.declared.call_fault.LinkWhy.TheVariants.{Outside, Recursive}
use Rattle.code_parts.specs.declared.call_fault.CallGraphFault.{CallGraphFault}
use Rattle.code_parts.specs.declared.call_fault.CallGraphFault.TheVariants.{Refused, NoMemory}

-- the least number with P
pub record IsLeast (P : ℕ → Type 0) (n : ℕ) : Type 0 where
  pub has : P n
  pub least : (m : ℕ) → P m → m < n → ⊥

-- ---- too much code

-- a function of e, and an address that is reached in it
abbrev pub IsReachedIn : Bytes → ℕ → ℕ × ℕ → Type 0
IsReachedIn code e q = IsFunction code e q.0 × Reaches (Next true code) q.0 q.1

-- The sizes of the functions of e sum to more than n: there are more than n different pairs of a function and an address that is reached
-- in it. An address that two functions reach counts for both.
pub record SizesOver (code : Bytes) (e n : ℕ) : Type 0 where
  pub some : List (ℕ × ℕ)
  pub over : n < length some
  pub reached : (q : ℕ × ℕ) → Contains some q → IsReachedIn code e q
  pub different : (j k : ℕ) → j < k → k < length some → slice_index_or some j (0, 0) ≢ slice_index_or some k (0, 0)

-- ---- faults

-- a function of e reaches the address a, which has a fault
pub record IsFaulty (code : Bytes) (e a : ℕ) : Type 0 where
  pub function : ℕ
  pub is : IsFunction code e function
  pub reached : Reaches (Next true code) function a
  pub why : Fault
  pub fault : look true code a ≡ Err why

-- f is a function of e that calls itself, by itself or by others
abbrev pub IsRecursive : Bytes → ℕ → ℕ → Type 0
IsRecursive code e f = IsFunction code e f × CallsBack code f

-- a fault of the loops of the function f by itself: a cycle with two entries and a walk to each, else a loop with too many exits
pub data IsLoopFault (code : Bytes) (f : ℕ) : Fault → Type 0 where
  InCycle : {cycle first second : List ℕ} → ShowsTwoEntries (Next true code) f cycle first second → IsLoopFault code f (TwoEntries cycle first second)
  InLoop : {a : ℕ} (g : GraphOf) → IsGraphOf true code f g → IsMany g a → IsLoopFault code f (ManyExits a)

-- f is a function of e whose loops have a fault
abbrev pub IsIrregular : Bytes → ℕ → ℕ → Type 0
IsIrregular code e f = IsFunction code e f × ((why : Fault) × IsLoopFault code f why)

-- The first reason for which the functions of e can't be linked: that there is too much code; where there isn't, the fault of the least
-- address that has one; where none has, the least function that calls itself; where none does, the fault of the loops of the least function
-- whose loops have one.
pub data IsCause (code : Bytes) (e : ℕ) : LinkWhy → Type 0 where
  Large : SizesOver code e reach_limit → IsCause code e (Outside TooLarge)
  InCode : {a : ℕ} {why : Fault} → (SizesOver code e reach_limit → ⊥) → IsLeast (IsFaulty code e) a → look true code a ≡ Err why → IsCause code e (Outside why)
  Recursion : {f : ℕ} → (SizesOver code e reach_limit → ⊥) → ((a : ℕ) → IsFaulty code e a → ⊥) → IsLeast (IsRecursive code e) f → IsCause code e (Recursive f)
  InLoops : {f : ℕ} {why : Fault} → (SizesOver code e reach_limit → ⊥) → ((a : ℕ) → IsFaulty code e a → ⊥) → ((h : ℕ) → IsRecursive code e h → ⊥)
      → IsLeast (IsIrregular code e) f → IsLoopFault code f why → IsCause code e (Outside why)

-- a reason that has one form: a cycle with two entries may be shown by other walks, and there may be others
abbrev pub HasOneForm : LinkWhy → Type 0
HasOneForm (Outside (TwoEntries cycle first second)) = ⊥
HasOneForm why = Unit {0}

-- why the functions of e aren't given: they can't be linked, or there is no memory
abbrev pub IsCallGraphFault : Bytes → ℕ → CallGraphFault → Type 0
IsCallGraphFault code e (Refused why) = IsCause code e why
IsCallGraphFault code e NoMemory = Unit {0}
