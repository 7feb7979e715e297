-- The node of a tree: that of each number which stands for it.
use Rattle.std.specs.Prelude.{◌≡◌, ℕ, List, Some, slice_get}
use Rattle.word_terms.specs.Tree.{WordTree, MemTree, CondTree, Const, Var, Bin, Extend, Load, MemVar, Store, Compare, Neg, Inside}
use Rattle.term_arena.specs.declared.node.Node.{Node}
use Rattle.term_arena.specs.declared.node.Node.TheVariants as node
use Rattle.term_arena.specs.Arena.{Tree, OfWord, OfMem, OfCond, tree_of}

-- the node of a number that stands for the tree
abbrev pub WordNode : List Node → ℕ → WordTree → Type 0
WordNode ns k (Const n) = slice_get ns k ≡ Some (node.Const n)
WordNode ns k (Var i) = slice_get ns k ≡ Some (node.WordVar i)
WordNode ns k (Bin op a b) = (x y : ℕ) × (slice_get ns k ≡ Some (node.Bin op x y)) × (tree_of ns x ≡ Some (OfWord a)) × (tree_of ns y ≡ Some (OfWord b))
WordNode ns k (Extend ext a) = (x : ℕ) × (slice_get ns k ≡ Some (node.Extend ext x)) × (tree_of ns x ≡ Some (OfWord a))
WordNode ns k (Load width m a) = (x y : ℕ) × (slice_get ns k ≡ Some (node.Load width x y)) × (tree_of ns x ≡ Some (OfMem m)) × (tree_of ns y ≡ Some (OfWord a))

abbrev pub MemNode : List Node → ℕ → MemTree → Type 0
MemNode ns k (MemVar i) = slice_get ns k ≡ Some (node.MemVar i)
MemNode ns k (Store width m a v) = (x y z : ℕ) × (slice_get ns k ≡ Some (node.Store width x y z)) × (tree_of ns x ≡ Some (OfMem m)) × (tree_of ns y ≡ Some (OfWord a)) × (tree_of ns z ≡ Some (OfWord v))

abbrev pub CondNode : List Node → ℕ → CondTree → Type 0
CondNode ns k (Compare cmp a b) = (x y : ℕ) × (slice_get ns k ≡ Some (node.Compare cmp x y)) × (tree_of ns x ≡ Some (OfWord a)) × (tree_of ns y ≡ Some (OfWord b))
CondNode ns k (Neg c) = (x : ℕ) × (slice_get ns k ≡ Some (node.Neg x)) × (tree_of ns x ≡ Some (OfCond c))
CondNode ns k (Inside width m a) = (x y : ℕ) × (slice_get ns k ≡ Some (node.Inside width x y)) × (tree_of ns x ≡ Some (OfMem m)) × (tree_of ns y ≡ Some (OfWord a))

abbrev pub TreeNode : List Node → ℕ → Tree → Type 0
TreeNode ns k (OfWord t) = WordNode ns k t
TreeNode ns k (OfMem m) = MemNode ns k m
TreeNode ns k (OfCond c) = CondNode ns k c
