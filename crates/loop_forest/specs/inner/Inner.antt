-- Regions as the walks of parts see them. A loop is named by its head.
use Rattle.std.specs.Prelude.{◌≡◌, ℕ, ◌⊎◌, Option, Some, None}
use Rattle.loop_forest.specs.Loops.{IsHead, InLoop, IsExit}
use Rattle.loop_forest.specs.Regions.{IsAround}

-- the smallest region that has n, a head counted to its own loop: no loop has n, or every loop that has n has this one's head
abbrev pub IsInner : (E : ℕ → ℕ → Type 0) → ℕ → ℕ → Option ℕ → Type 0
IsInner E e n None = (h : ℕ) → IsHead E e h → InLoop E e h n → ⊥
IsInner E e n (Some l) = IsHead E e l × InLoop E e l n × ((h : ℕ) → IsHead E e h → InLoop E e h n → InLoop E e h l)

-- where a part of a region may end or go on: at the head of the region's loop, at one of its exits, or in the region itself
abbrev pub IsPlaced : (E : ℕ → ℕ → Type 0) → ℕ → Option ℕ → ℕ → Type 0
IsPlaced E e None n = IsAround E e n None
IsPlaced E e (Some l) n = (n ≡ l) ⊎ (IsExit E e l n ⊎ IsAround E e n (Some l))
