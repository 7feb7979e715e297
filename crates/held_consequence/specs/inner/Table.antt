-- A table of pairs of numbers, each with the answer whether their terms may be swapped, or are alike where they are conditions.
use Rattle.std.specs.Prelude.{◌≡◌, ◌↔◌, ℕ, ◌+◌, ◌*◌, ◌<◌, ◌≤◌, Bool, IsTrue, List, Some, ◌++◌, length, map, slice_get}
use Rattle.std.specs.List.{Contains}
use Rattle.term_arena.specs.declared.node.Node.{Node}
use Rattle.term_arena.specs.Arena.{Tree, OfWord, OfMem, OfCond, tree_of}
use Rattle.triple_kernel.specs.Tree.{FactTree}
use Rattle.triple_kernel.specs.Swap.{SwapWord, SwapMem}
use Rattle.triple_kernel.specs.Rules.{Alike}
use Rattle.held_terms.specs.Subterms.{HasTree, IsIn}

-- the list has each subterm of both
abbrev pub HasBoth : List Node → ℕ → ℕ → List Tree → Type 0
HasBoth ns a b ts = HasTree ts (tree_of ns a) × HasTree ts (tree_of ns b)

-- two numbers and an answer
abbrev pub Entry : Type 0
Entry = ℕ × ℕ × Bool

abbrev pub key_of : Entry → ℕ × ℕ
key_of p = (p.0, p.1)

abbrev pub keys_of : List Entry → List (ℕ × ℕ)
keys_of known = map key_of known

-- one may stand for the other; conditions are alike
abbrev pub SwapTrees : List FactTree → Tree → Tree → Type 0
SwapTrees facts (OfWord t) (OfWord u) = SwapWord facts t u
SwapTrees facts (OfMem m) (OfMem n) = SwapMem facts m n
SwapTrees facts (OfCond c) (OfCond d) = Alike facts c d
SwapTrees facts x y = ⊥

-- the entry's answer is right
pub record IsDecided (ns : List Node) (facts : List FactTree) (p : Entry) : Type 0 where
  pub one : Tree
  pub other : Tree
  pub at_one : tree_of ns p.0 ≡ Some one
  pub at_other : tree_of ns p.1 ≡ Some other
  pub is : IsTrue p.2 ↔ SwapTrees facts one other

-- .. of each entry whose first number is below that one
pub record IsKnown (ns : List Node) (facts : List FactTree) (known : List Entry) (n : ℕ) : Type 0 where
  pub each : (p : Entry) → Contains known p → p.0 < n → IsDecided ns facts p

-- entries that came are right
pub record AreDecided (ns : List Node) (facts : List FactTree) (old new : List Entry) : Type 0 where
  pub more : List Entry
  pub is : new ≡ old ++ more
  pub each : (p : Entry) → Contains more p → IsDecided ns facts p

-- no two entries have the same two numbers
pub record IsTable (known : List Entry) : Type 0 where
  pub distinct : (i j : ℕ) (k : ℕ × ℕ) → slice_get (keys_of known) i ≡ Some k → slice_get (keys_of known) j ≡ Some k → i ≡ j

-- .. of each number of the table
pub record AreIn (ns : List Node) (ts : List Tree) (known : List Entry) : Type 0 where
  pub each : (k : ℕ × ℕ) → Contains (keys_of known) k → IsIn ns ts k.0 × IsIn ns ts k.1

-- two steps at most for each entry that came; all are still different, and in each list that P asks for
pub record Went (ns : List Node) (P : List Tree → Type 0) (old new : List Entry) (s t : ℕ) : Type 0 where
  pub steps : t + 2 * length old ≤ s + 2 * length new
  pub table : IsTable old → IsTable new
  pub inside : (ts : List Tree) → P ts → AreIn ns ts old → AreIn ns ts new
