-- Cuts of a graph, given by its edges, its entry and the number of edges that lead to each node.
use Rattle.std.specs.Prelude.{◌≡◌, ℕ, ◌+◌, ◌%◌, ◌≤◌}
use Rattle.loop_forest.specs.Loops.{IsHead, IsExit}

-- a cut whatever stands before it: the entry, a head, an exit of a loop, or a node with two or more incoming edges
pub data IsBase (E : ℕ → ℕ → Type 0) (e : ℕ) (incoming : ℕ → ℕ) : ℕ → Type 0 where
  Entry : IsBase E e incoming e
  Head : {n : ℕ} → IsHead E e n → IsBase E e incoming n
  Exit : {h n : ℕ} → IsHead E e h → IsExit E e h n → IsBase E e incoming n
  Joined : {n : ℕ} → 2 ≤ incoming n → IsBase E e incoming n

-- how many instructions there are on the way to a node from the last cut, modulo 32; Base says which nodes are cuts for another reason
pub data StepsSinceCut (E : ℕ → ℕ → Type 0) (Base : ℕ → Type 0) : ℕ → ℕ → Type 0 where
  AtBase : {n : ℕ} → Base n → StepsSinceCut E Base n 0
  After : {u n k j : ℕ} → (Base n → ⊥) → E u n → StepsSinceCut E Base u k → j ≡ (k + 1) % 32 → StepsSinceCut E Base n j

-- a cut: one of these, or where the way to it from the last cut has 32 instructions
abbrev pub IsCut : (E : ℕ → ℕ → Type 0) → ℕ → (ℕ → ℕ) → ℕ → Type 0
IsCut E e incoming n = StepsSinceCut E (IsBase E e incoming) n 0
