-- How deep the terms of an arena are, as it keeps that, and that their numbers fit.
use Rattle.std.specs.Prelude.{◌≡◌, ℕ, ◌+◌, ◌<◌, ◌^◌, max, List, Some, map, slice_index}
use Rattle.word_terms.specs.Tree.{told_depth}
use Rattle.term_arena.specs.declared.node.Node.{Node}
use Rattle.term_arena.specs.declared.node.Node.TheVariants as node
use Rattle.term_arena.specs.Arena.{Tree, TreeInRange, tree_depth, tree_of, trees_of}

-- a constant or a variable has depth 1, any other term one more than its deepest child
abbrev pub depth_over : List ℕ → Node → ℕ
depth_over ds (node.Const n) = 1
depth_over ds (node.WordVar i) = 1
depth_over ds (node.Bin op a b) = max (slice_index ds a) (slice_index ds b) + 1
depth_over ds (node.Extend ext a) = slice_index ds a + 1
depth_over ds (node.Load width m a) = max (slice_index ds m) (slice_index ds a) + 1
depth_over ds (node.MemVar i) = 1
depth_over ds (node.Store width m a v) = max (slice_index ds m) (max (slice_index ds a) (slice_index ds v)) + 1
depth_over ds (node.Compare cmp a b) = max (slice_index ds a) (slice_index ds b) + 1
depth_over ds (node.Neg c) = slice_index ds c + 1
depth_over ds (node.Inside width m a) = max (slice_index ds m) (slice_index ds a) + 1

-- a constant has 64 bits, the number of a variable 32
abbrev pub NodeInRange : Node → Type 0
NodeInRange (node.Const n) = n < 2 ^ 64
NodeInRange (node.WordVar i) = i < 2 ^ 32
NodeInRange (node.MemVar i) = i < 2 ^ 32
NodeInRange n = Unit {0}

-- the depth of each term, and that its numbers fit
pub record AreMeasured (ns : List Node) (depths : List ℕ) : Type 0 where
  pub told : depths ≡ map (λ t. told_depth (tree_depth t)) (trees_of ns)
  pub ranges : (k : ℕ) (t : Tree) → tree_of ns k ≡ Some t → TreeInRange t
