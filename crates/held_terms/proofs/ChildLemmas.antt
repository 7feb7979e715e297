-- Lists that have each subterm of a term have those of its children.
use Rattle.std.specs.List.{Contains}
use Rattle.std.proofs.Common.{◌≡◌, ℕ, ◌<◌, List, Some, length, sym, subst, arith}
use Rattle.word_terms.specs.Tree.{Const, Var, Bin, Extend, Load, MemVar, Store, Compare, Neg, Inside}
use Rattle.term_arena.specs.declared.node.Node.{Node}
use Rattle.term_arena.specs.declared.node.Node.TheVariants as node
use Rattle.term_arena.specs.Arena.{Tree, tree_of, trees_of, tree_over, word_of, mem_of, cond_of, IsWordAt, IsMemAt, IsCondAt, AreChildren, Extends, OfWord, OfMem, OfCond}
use Rattle.term_arena.proofs.Places.{at_place}
use Rattle.term_arena.proofs.PutLemmas.{tree_stays}
use Rattle.term_arena.proofs.TreeLemmas.{length-trees}
use Rattle.held_terms.specs.Subterms.{HasWord, HasMem, HasCond, HasTree, HasTerm, IsIn}

-- ---- what lists have

module _ (ns : List Node) where
  word_has : (ts : List Tree) (k : ℕ) → IsWordAt ns k → HasWord ts (word_of ns k) → HasTerm ns k ts
  word_has ts k h has = subst (HasTree ts) (sym h) has

  mem_has : (ts : List Tree) (k : ℕ) → IsMemAt ns k → HasMem ts (mem_of ns k) → HasTerm ns k ts
  mem_has ts k h has = subst (HasTree ts) (sym h) has

  cond_has : (ts : List Tree) (k : ℕ) → IsCondAt ns k → HasCond ts (cond_of ns k) → HasTerm ns k ts
  cond_has ts k h has = subst (HasTree ts) (sym h) has

  -- each list that has a node's subterms has those of its children
  abbrev Under : ℕ → ℕ → Type 0
  Under x a = (ts : List Tree) → HasTerm ns x ts → HasTerm ns a ts

  abbrev pub AreUnder : ℕ → Node → Type 0
  AreUnder x (node.Bin op a b) = Under x a × Under x b
  AreUnder x (node.Extend ext a) = Under x a
  AreUnder x (node.Load width m a) = Under x m × Under x a
  AreUnder x (node.Store width m a v) = Under x m × Under x a × Under x v
  AreUnder x (node.Compare cmp a b) = Under x a × Under x b
  AreUnder x (node.Neg c) = Under x c
  AreUnder x (node.Inside width m a) = Under x m × Under x a
  AreUnder x n = Unit {0}

  pub children_under : (x : ℕ) (n : Node) → tree_of ns x ≡ Some (tree_over (trees_of ns) n) → AreChildren ns n → AreUnder x n
  children_under x (node.Const n) e h = tt
  children_under x (node.WordVar i) e h = tt
  children_under x (node.MemVar i) e h = tt
  children_under x (node.Bin op a b) e h = (λ ts has. word_has ts a h.0 (subst (HasTree ts) e has).1, λ ts has. word_has ts b h.1 (subst (HasTree ts) e has).2)
  children_under x (node.Extend ext a) e h = λ ts has. word_has ts a h (subst (HasTree ts) e has).1
  children_under x (node.Load width m a) e h = (λ ts has. mem_has ts m h.0 (subst (HasTree ts) e has).1, λ ts has. word_has ts a h.1 (subst (HasTree ts) e has).2)
  children_under x (node.Store width m a v) e h =
      (λ ts has. mem_has ts m h.0 (subst (HasTree ts) e has).1, λ ts has. word_has ts a h.1 (subst (HasTree ts) e has).2, λ ts has. word_has ts v h.2 (subst (HasTree ts) e has).3)
  children_under x (node.Compare cmp a b) e h = (λ ts has. word_has ts a h.0 (subst (HasTree ts) e has).1, λ ts has. word_has ts b h.1 (subst (HasTree ts) e has).2)
  children_under x (node.Neg c) e h = λ ts has. cond_has ts c h (subst (HasTree ts) e has).1
  children_under x (node.Inside width m a) e h = (λ ts has. mem_has ts m h.0 (subst (HasTree ts) e has).1, λ ts has. word_has ts a h.1 (subst (HasTree ts) e has).2)

-- in a larger arena
module _ (ms ns : List Node) (e : Extends ms ns) where
  pub has_still : (k : ℕ) (ts : List Tree) → k < length ms → HasTerm ms k ts → HasTerm ns k ts
  has_still k ts low has =
      let l = length-trees ms in
      let here : k < length (trees_of ms) = omega (arith, low, l) in
      let at = at_place (trees_of ms) k here in
      subst (HasTree ts) (sym (tree_stays ms ns k at.0 e at.1)) (subst (HasTree ts) at.1 has)

  pub in_still : (ts : List Tree) (k : ℕ) → IsIn ms ts k → IsIn ns ts k
  in_still ts k i = record { tree = i.tree; at = tree_stays ms ns k i.tree e i.at; here = i.here }

-- ---- lists of subterms

pub has_top : (ts : List Tree) (x : Tree) → HasTree ts (Some x) → Contains ts x
has_top ts (OfWord (Const n)) h = h
has_top ts (OfWord (Var i)) h = h
has_top ts (OfWord (Bin op a b)) h = h.0
has_top ts (OfWord (Extend ext a)) h = h.0
has_top ts (OfWord (Load width m a)) h = h.0
has_top ts (OfMem (MemVar i)) h = h
has_top ts (OfMem (Store width m a v)) h = h.0
has_top ts (OfCond (Compare cmp a b)) h = h.0
has_top ts (OfCond (Neg c)) h = h.0
has_top ts (OfCond (Inside width m a)) h = h.0

pub has_number : (ns : List Node) (ts : List Tree) (k : ℕ) (x : Tree) → tree_of ns k ≡ Some x → HasTree ts (tree_of ns k) → IsIn ns ts k
has_number ns ts k x e h = record { tree = x; at = e; here = has_top ts x (subst (HasTree ts) e h) }
