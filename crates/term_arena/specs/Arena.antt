-- What the numbers of an arena stand for. A node's children have numbers below its own, so each tree is made of earlier ones.
use Rattle.std.specs.Prelude.{◌≡◌, ◌⊎◌, ℕ, ◌+◌, ◌<◌, ◌^◌, List, [], ◌∷◌, ◌++◌, Option, Some, fold, length, slice_get, take, Contains}
use Rattle.word_terms.specs.Tree.{WordTree, MemTree, CondTree, Const, Var, Bin, Extend, Load, MemVar, Store, Compare, Neg, Inside, depth_of_cond, depth_of_mem, depth_of_word}
use Rattle.word_terms.specs.Scope.{CondInRange, CondInScope, MemInRange, MemInScope, WordInRange, WordInScope}
use Rattle.rv_words.specs.declared.comparison.Cmp.TheVariants.{Eq}
use Rattle.term_arena.specs.declared.node.Node.{Node}
use Rattle.term_arena.specs.declared.node.Node.TheVariants as node

-- a term for a word or a memory, or a condition
pub data Tree : Type 0 where
  OfWord : (t : WordTree) → Tree
  OfMem : (m : MemTree) → Tree
  OfCond : (c : CondTree) → Tree

-- how deep it is
abbrev pub tree_depth : Tree → ℕ
tree_depth (OfWord t) = depth_of_word t
tree_depth (OfMem m) = depth_of_mem m
tree_depth (OfCond c) = depth_of_cond c

-- each constant in it is a 64-bit word, and each variable has a number of 32 bits
abbrev pub TreeInRange : Tree → Type 0
TreeInRange (OfWord t) = WordInRange t × WordInScope t (2 ^ 32) (2 ^ 32)
TreeInRange (OfMem m) = MemInRange m × MemInScope m (2 ^ 32) (2 ^ 32)
TreeInRange (OfCond c) = CondInRange c × CondInScope c (2 ^ 32) (2 ^ 32)

-- the word of a place, the memory, the condition, where there is one
abbrev pub as_word : Option Tree → WordTree
as_word (Some (OfWord t)) = t
as_word _ = Const 0

abbrev pub as_mem : Option Tree → MemTree
as_mem (Some (OfMem m)) = m
as_mem _ = MemVar 0

abbrev pub as_cond : Option Tree → CondTree
as_cond (Some (OfCond c)) = c
as_cond _ = Compare Eq (Const 0) (Const 0)

abbrev pub word_in : List Tree → ℕ → WordTree
word_in ts k = as_word (slice_get ts k)

abbrev pub mem_in : List Tree → ℕ → MemTree
mem_in ts k = as_mem (slice_get ts k)

abbrev pub cond_in : List Tree → ℕ → CondTree
cond_in ts k = as_cond (slice_get ts k)

-- the tree of a node over those of the numbers before it
abbrev pub tree_over : List Tree → Node → Tree
tree_over ts (node.Const n) = OfWord (Const n)
tree_over ts (node.WordVar i) = OfWord (Var i)
tree_over ts (node.Bin op a b) = OfWord (Bin op (word_in ts a) (word_in ts b))
tree_over ts (node.Extend ext a) = OfWord (Extend ext (word_in ts a))
tree_over ts (node.Load width m a) = OfWord (Load width (mem_in ts m) (word_in ts a))
tree_over ts (node.MemVar i) = OfMem (MemVar i)
tree_over ts (node.Store width m a v) = OfMem (Store width (mem_in ts m) (word_in ts a) (word_in ts v))
tree_over ts (node.Compare cmp a b) = OfCond (Compare cmp (word_in ts a) (word_in ts b))
tree_over ts (node.Neg c) = OfCond (Neg (cond_in ts c))
tree_over ts (node.Inside width m a) = OfCond (Inside width (mem_in ts m) (word_in ts a))

-- the trees with one more
abbrev pub with_tree : List Tree → Node → List Tree
with_tree ts n = ts ++ tree_over ts n ∷ []

-- the tree of each number
unfoldable pub trees_of : List Node → List Tree
trees_of ns = fold with_tree [] ns

-- the tree of a number
abbrev pub tree_of : List Node → ℕ → Option Tree
tree_of ns k = slice_get (trees_of ns) k

abbrev pub word_of : List Node → ℕ → WordTree
word_of ns k = as_word (tree_of ns k)

abbrev pub mem_of : List Node → ℕ → MemTree
mem_of ns k = as_mem (tree_of ns k)

abbrev pub cond_of : List Node → ℕ → CondTree
cond_of ns k = as_cond (tree_of ns k)

-- the number is that of a term for a word, of one for a memory, of a condition
abbrev pub IsWordAt : List Node → ℕ → Type 0
IsWordAt ns k = tree_of ns k ≡ Some (OfWord (word_of ns k))

abbrev pub IsMemAt : List Node → ℕ → Type 0
IsMemAt ns k = tree_of ns k ≡ Some (OfMem (mem_of ns k))

abbrev pub IsCondAt : List Node → ℕ → Type 0
IsCondAt ns k = tree_of ns k ≡ Some (OfCond (cond_of ns k))

-- the children of the node are there, each of the right kind
abbrev pub AreChildren : List Node → Node → Type 0
AreChildren ns (node.Const n) = Unit {0}
AreChildren ns (node.WordVar i) = Unit {0}
AreChildren ns (node.Bin op a b) = IsWordAt ns a × IsWordAt ns b
AreChildren ns (node.Extend ext a) = IsWordAt ns a
AreChildren ns (node.Load width m a) = IsMemAt ns m × IsWordAt ns a
AreChildren ns (node.MemVar i) = Unit {0}
AreChildren ns (node.Store width m a v) = IsMemAt ns m × IsWordAt ns a × IsWordAt ns v
AreChildren ns (node.Compare cmp a b) = IsWordAt ns a × IsWordAt ns b
AreChildren ns (node.Neg c) = IsCondAt ns c
AreChildren ns (node.Inside width m a) = IsMemAt ns m × IsWordAt ns a

-- the children of the node have numbers below that one
abbrev pub AreBelow : ℕ → Node → Type 0
AreBelow k (node.Const n) = Unit {0}
AreBelow k (node.WordVar i) = Unit {0}
AreBelow k (node.Bin op a b) = (a < k) × (b < k)
AreBelow k (node.Extend ext a) = a < k
AreBelow k (node.Load width m a) = (m < k) × (a < k)
AreBelow k (node.MemVar i) = Unit {0}
AreBelow k (node.Store width m a v) = (m < k) × (a < k) × (v < k)
AreBelow k (node.Compare cmp a b) = (a < k) × (b < k)
AreBelow k (node.Neg c) = c < k
AreBelow k (node.Inside width m a) = (m < k) × (a < k)

-- each number's children are below it, and no two numbers have the same node
pub record IsArena (ns : List Node) : Type 0 where
  pub children : (k : ℕ) (n : Node) → slice_get ns k ≡ Some n → AreChildren (take k ns) n
  pub distinct : (i j : ℕ) (n : Node) → slice_get ns i ≡ Some n → slice_get ns j ≡ Some n → i ≡ j

-- each number of the first is one of the second, with the same node
pub record Extends (ns ms : List Node) : Type 0 where
  pub more : List Node
  pub is : ms ≡ ns ++ more

-- that node has that number: it was there, or it came as the next
pub data IsAdded (ns : List Node) (n : Node) (k : ℕ) (ms : List Node) : Type 0 where
  Was_there : slice_get ns k ≡ Some n → ms ≡ ns → IsAdded ns n k ms
  Is_next : k ≡ length ns → ms ≡ ns ++ n ∷ [] → IsAdded ns n k ms

-- a term's subterms: children first, from left to right, and the term itself last
abbrev mutual
  pub word_subterms : WordTree → List Tree
  word_subterms (Const n) = OfWord (Const n) ∷ []
  word_subterms (Var i) = OfWord (Var i) ∷ []
  word_subterms (Bin op a b) = word_subterms a ++ (word_subterms b ++ OfWord (Bin op a b) ∷ [])
  word_subterms (Extend ext a) = word_subterms a ++ OfWord (Extend ext a) ∷ []
  word_subterms (Load width m a) = mem_subterms m ++ (word_subterms a ++ OfWord (Load width m a) ∷ [])

  pub mem_subterms : MemTree → List Tree
  mem_subterms (MemVar i) = OfMem (MemVar i) ∷ []
  mem_subterms (Store width m a v) = mem_subterms m ++ (word_subterms a ++ (word_subterms v ++ OfMem (Store width m a v) ∷ []))

abbrev pub cond_subterms : CondTree → List Tree
cond_subterms (Compare cmp a b) = word_subterms a ++ (word_subterms b ++ OfCond (Compare cmp a b) ∷ [])
cond_subterms (Neg c) = cond_subterms c ++ OfCond (Neg c) ∷ []
cond_subterms (Inside width m a) = mem_subterms m ++ (word_subterms a ++ OfCond (Inside width m a) ∷ [])

-- terms were put in one after the other, each new one behind those that were there
abbrev pub ArePutIn : List Tree → List Tree → List Tree → Type 0
ArePutIn before [] after = after ≡ before
ArePutIn before (x ∷ xs) after = (Contains before x × ArePutIn before xs after) ⊎ ((Contains before x → ⊥) × ArePutIn (before ++ x ∷ []) xs after)

-- how many nodes a tree has
abbrev mutual
  pub word_nodes : WordTree → ℕ
  word_nodes (Const n) = 1
  word_nodes (Var i) = 1
  word_nodes (Bin op a b) = word_nodes a + word_nodes b + 1
  word_nodes (Extend ext a) = word_nodes a + 1
  word_nodes (Load width m a) = mem_nodes m + word_nodes a + 1

  pub mem_nodes : MemTree → ℕ
  mem_nodes (MemVar i) = 1
  mem_nodes (Store width m a v) = mem_nodes m + word_nodes a + word_nodes v + 1

abbrev pub cond_nodes : CondTree → ℕ
cond_nodes (Compare cmp a b) = word_nodes a + word_nodes b + 1
cond_nodes (Neg c) = cond_nodes c + 1
cond_nodes (Inside width m a) = mem_nodes m + word_nodes a + 1
