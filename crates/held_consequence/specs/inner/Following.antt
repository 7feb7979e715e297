-- Facts that follow from others, over numbers: conditions in pairs, and how many steps are taken.
use Rattle.std.specs.Prelude.{◌≡◌, ℕ, ◌+◌, ◌*◌, ◌<◌, ◌≤◌, List, length}
use Rattle.std.specs.BTreeMap.{IsOrdered, btree_map_len}
use Rattle.std.specs.Ordering.{nat_cmp}
use Rattle.term_arena.specs.declared.node.Node.{Node}
use Rattle.term_arena.specs.declared.node.Node.TheVariants as node
use Rattle.term_arena.specs.Arena.{Tree, word_of, mem_of, cond_of, IsWordAt, IsMemAt, IsCondAt}
use Rattle.triple_kernel.specs.Tree.{FactTree}
use Rattle.triple_kernel.specs.Swap.{SwapWord}
use Rattle.triple_kernel.specs.Rules.{Alike, SameAddresses}
use Rattle.held_terms.specs.declared.held.HeldFact.{HeldFact}
use Rattle.held_consequence.specs.declared.conditions.CondPairs.{CondPairs}
use Rattle.held_consequence.specs.declared.conditions.CondPairs.TheVariants as conds
use Rattle.held_terms.specs.Subterms.{HasFact, HasFacts, HasTerm}
use Rattle.held_consequence.specs.inner.Alone.{AreSearched, Finds, Kept}
use Rattle.held_consequence.specs.inner.Pairs.{IsUnder, Where}
use Rattle.held_consequence.specs.inner.Table.{AreIn, Entry, IsTable, Went}

-- ---- the children of two conditions of one form, in pairs

abbrev pub CondPairsAre : Node → Node → CondPairs → Type 0
CondPairsAre (node.Compare cmp x y) (node.Compare o u v) ps = Where (cmp ≡ o) (conds.Compare x u y v) conds.Differ ps
CondPairsAre (node.Neg x) (node.Neg u) ps = ps ≡ conds.Neg x u
CondPairsAre (node.Inside width m x) (node.Inside w n u) ps = Where (width ≡ w) (conds.Inside m n x u) conds.Differ ps
CondPairsAre n m ps = ps ≡ conds.Differ

-- the first of each pair is below the number, and both are there
abbrev pub CondPairsFit : List Node → ℕ → CondPairs → Type 0
CondPairsFit ns a conds.Differ = Unit {0}
CondPairsFit ns a (conds.Compare x u y v) = (x < a) × IsWordAt ns x × IsWordAt ns u × (y < a) × IsWordAt ns y × IsWordAt ns v
CondPairsFit ns a (conds.Neg x u) = (x < a) × IsCondAt ns x × IsCondAt ns u
CondPairsFit ns a (conds.Inside m n x u) = (m < a) × IsMemAt ns m × IsMemAt ns n × (x < a) × IsWordAt ns x × IsWordAt ns u

-- a list that has each subterm of both conditions has those of each pair
abbrev pub CondPairsUnder : List Node → ℕ → ℕ → CondPairs → Type 0
CondPairsUnder ns a b conds.Differ = Unit {0}
CondPairsUnder ns a b (conds.Compare x u y v) = IsUnder ns a b x u × IsUnder ns a b y v
CondPairsUnder ns a b (conds.Neg x u) = IsUnder ns a b x u
CondPairsUnder ns a b (conds.Inside m n x u) = IsUnder ns a b m n × IsUnder ns a b x u

-- those of each pair may be swapped, and are alike where they are conditions
abbrev pub CondPairsAlike : List FactTree → List Node → CondPairs → Type 0
CondPairsAlike facts ns conds.Differ = ⊥
CondPairsAlike facts ns (conds.Compare x u y v) = SwapWord facts (word_of ns x) (word_of ns u) × SwapWord facts (word_of ns y) (word_of ns v)
CondPairsAlike facts ns (conds.Neg x u) = Alike facts (cond_of ns x) (cond_of ns u)
CondPairsAlike facts ns (conds.Inside m n x u) = SameAddresses facts (mem_of ns m) (mem_of ns n) × SwapWord facts (word_of ns x) (word_of ns u)

-- ---- steps

-- the list has each subterm of a condition and of a fact, of a condition and of facts, of a fact and of facts
abbrev pub HasCondAndFact : List Node → ℕ → HeldFact → List Tree → Type 0
HasCondAndFact ns c f ts = HasTerm ns c ts × HasFact ns f ts

abbrev pub HasCondAnd : List Node → ℕ → List HeldFact → List Tree → Type 0
HasCondAnd ns c fs ts = HasTerm ns c ts × HasFacts ns fs ts

abbrev pub HasFactAnd : List Node → HeldFact → List HeldFact → List Tree → Type 0
HasFactAnd ns f fs ts = HasFact ns f ts × HasFacts ns fs ts

-- .. of two lists of facts
abbrev pub HasBothFacts : List Node → List HeldFact → List HeldFact → List Tree → Type 0
HasBothFacts ns fs gs ts = HasFacts ns fs ts × HasFacts ns gs ts

-- two steps at most for each pair that came, and one for each other entry
pub record Sought (ns : List Node) (P : List Tree → Type 0) (old new : List Entry) (was now : Finds) (s t : ℕ) : Type 0 where
  pub went : Went ns P old new (s + btree_map_len now) (t + btree_map_len was)
  pub kept : Kept ns P was now

-- .. from the beginning
pub record AllSought (ns : List Node) (P : List Tree → Type 0) (known : List Entry) (finds : Finds) (s t : ℕ) : Type 0 where
  pub steps : t ≤ s + (2 * length known + btree_map_len finds)
  pub table : IsTable known
  pub ordered : IsOrdered nat_cmp finds
  pub pairs : (ts : List Tree) → P ts → AreIn ns ts known
  pub terms : (ts : List Tree) → P ts → AreSearched ns ts finds
