-- Regions of a graph, given by its edges and its entry, and loops with many exits. A loop is named by its head.
use Rattle.std.specs.Prelude.{◌≢◌, ℕ, ◌<◌, Option, Some, None, List, length, slice_index}
use Rattle.std.specs.List.{Contains}
use Rattle.loop_forest.specs.Loops.{IsHead, InLoop, IsExit}

-- the smallest region that has n, where a head counts as a node of the region around its loop: no loop has n, or every loop that
-- has n has this one's head
abbrev pub IsAround : (E : ℕ → ℕ → Type 0) → ℕ → ℕ → Option ℕ → Type 0
IsAround E e n None = (h : ℕ) → IsHead E e h → h ≢ n → InLoop E e h n → ⊥
IsAround E e n (Some l) = IsHead E e l × (l ≢ n) × InLoop E e l n × ((h : ℕ) → IsHead E e h → h ≢ n → InLoop E e h n → InLoop E e h l)

-- the loop of h has more than n different exits
pub record ExitsOver (E : ℕ → ℕ → Type 0) (e h n : ℕ) : Type 0 where
  pub some : List ℕ
  pub over : n < length some
  pub exits : (x : ℕ) → Contains some x → IsExit E e h x
  pub different : (j k : ℕ) → j < k → k < length some → slice_index some j ≢ slice_index some k

-- how many exits a loop may have
abbrev pub loop_exit_limit : ℕ
loop_exit_limit = 8

-- h is the least head whose loop has too many exits
pub record HasManyExits (E : ℕ → ℕ → Type 0) (e h : ℕ) : Type 0 where
  pub head : IsHead E e h
  pub over : ExitsOver E e h loop_exit_limit
  pub least : (k : ℕ) → k < h → IsHead E e k → ExitsOver E e k loop_exit_limit → ⊥
