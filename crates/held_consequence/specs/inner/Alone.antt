-- What is found of terms by themselves: values of words and conditions without variables, and memories before their stores.
use Rattle.std.specs.Prelude.{◌≡◌, ◌⊎◌, ℕ, ◌+◌, ◌<◌, ◌≤◌, Bool, List, Option, Some, None, IsSome}
use Rattle.std.specs.Ordering.{nat_cmp}
use Rattle.std.specs.BTreeMap.{BTreeMap, IsOrdered, btree_map_len, get}
use Rattle.rv_words.specs.declared.operation.Op.{Op}
use Rattle.rv_words.specs.declared.comparison.Cmp.{Cmp}
use Rattle.rv_words.specs.Operation.{operation_value, comparison_holds}
use Rattle.word_terms.specs.Tree.{WordTree, CondTree}
use Rattle.word_terms.specs.Scope.{WordInScope, CondInScope}
use Rattle.word_terms.specs.Environment.{no_variables}
use Rattle.word_terms.specs.Value.{word_value, cond_holds}
use Rattle.term_arena.specs.declared.node.Node.{Node}
use Rattle.term_arena.specs.declared.node.Node.TheVariants as node
use Rattle.term_arena.specs.Arena.{Tree, word_of, mem_of, cond_of, IsWordAt, IsMemAt, IsCondAt}
use Rattle.triple_kernel.specs.Rules.{before_stores}
use Rattle.held_consequence.specs.declared.alone.Found.{Found}
use Rattle.held_consequence.specs.declared.alone.Found.TheVariants as found
use Rattle.held_terms.specs.Subterms.{HasTerm, IsIn}

-- ---- the memory before a store

-- the memory that the node is a store to
abbrev pub stored_over : Node → Option ℕ
stored_over (node.Store width m a v) = Some m
stored_over n = None

-- the second memory is the first one before its outermost store
pub record IsBeforeStore (ns : List Node) (m old : ℕ) : Type 0 where
  pub below : old < m
  pub there : IsMemAt ns old
  pub same : before_stores (mem_of ns m) ≡ before_stores (mem_of ns old)
  pub under : (ts : List Tree) → HasTerm ns m ts → HasTerm ns old ts

-- the second memory is the first one before all of its outer stores
pub record IsBase (ns : List Node) (m base : ℕ) : Type 0 where
  pub low : base ≤ m
  pub there : IsMemAt ns base
  pub same : mem_of ns base ≡ before_stores (mem_of ns m)
  pub under : (ts : List Tree) → HasTerm ns m ts → HasTerm ns base ts

-- ---- terms without variables

-- the value of the word, if it has no variables
abbrev pub IsConstant : WordTree → Option ℕ → Type 0
IsConstant t None = WordInScope t 0 0 → ⊥
IsConstant t (Some n) = WordInScope t 0 0 × (word_value t no_variables ≡ n)

-- what an operation and a comparison give of two values, if both are there
abbrev pub applied : Op → Option ℕ → Option ℕ → Option ℕ
applied op (Some n) (Some m) = Some (operation_value op n m)
applied op a b = None

abbrev pub compared : Cmp → Option ℕ → Option ℕ → Option Bool
compared cmp (Some n) (Some m) = Some (comparison_holds cmp n m)
compared cmp a b = None

-- whether the condition is true, if it has no variables
abbrev pub IsDecidedAlone : CondTree → Option Bool → Type 0
IsDecidedAlone c None = CondInScope c 0 0 → ⊥
IsDecidedAlone c (Some b) = CondInScope c 0 0 × (cond_holds c no_variables ≡ b)

-- ---- what is found

-- the value of a word, whether a condition is true, the memory before stores, that an entry says
abbrev pub value_of : Option Found → Option (Option ℕ)
value_of (Some (found.Value v)) = Some v
value_of f = None

abbrev pub truth_found : Option Found → Option (Option Bool)
truth_found (Some (found.Truth v)) = Some v
truth_found f = None

abbrev pub base_of : Option Found → Option ℕ
base_of (Some (found.Base m)) = Some m
base_of f = None

-- it is right of the number's term
abbrev pub IsFound : List Node → ℕ → Found → Type 0
IsFound ns k (found.Value v) = IsWordAt ns k × IsConstant (word_of ns k) v
IsFound ns k (found.Truth v) = IsCondAt ns k × IsDecidedAlone (cond_of ns k) v
IsFound ns k (found.Base m) = IsMemAt ns k × IsBase ns k m

-- numbers of terms, each with what was found
abbrev pub Finds : Type 0
Finds = BTreeMap ℕ Found

-- each entry is right
pub record AreAllFound (ns : List Node) (finds : Finds) : Type 0 where
  pub each : (k : ℕ) (f : Found) → get nat_cmp finds k ≡ Some f → IsFound ns k f

-- .. of a number below that one
pub record AreFound (ns : List Node) (finds : Finds) (n : ℕ) : Type 0 where
  pub each : (k : ℕ) (f : Found) → k < n → get nat_cmp finds k ≡ Some f → IsFound ns k f

-- each entry was there before, or is right
pub record AreMoreFound (ns : List Node) (old new : Finds) : Type 0 where
  pub each : (k : ℕ) (f : Found) → get nat_cmp new k ≡ Some f → (get nat_cmp old k ≡ Some f) ⊎ IsFound ns k f

-- ---- how many entries, and steps

-- the tree of each number that has an entry is in the list
pub record AreSearched {V : Type 0} (ns : List Node) (ts : List Tree) (finds : BTreeMap ℕ V) : Type 0 where
  pub each : (k : ℕ) → IsSome (get nat_cmp finds k) → IsIn ns ts k

-- the entries that came are of terms in each list that P asks for
pub record Kept {V : Type 0} (ns : List Node) (P : List Tree → Type 0) (old new : BTreeMap ℕ V) : Type 0 where
  pub ordered : IsOrdered nat_cmp old → IsOrdered nat_cmp new
  pub inside : (ts : List Tree) → P ts → AreSearched ns ts old → AreSearched ns ts new

-- .. and each took one step at most
pub record Searched {V : Type 0} (ns : List Node) (P : List Tree → Type 0) (old new : BTreeMap ℕ V) (s t : ℕ) : Type 0 where
  pub steps : t + btree_map_len old ≤ s + btree_map_len new
  pub kept : Kept ns P old new
