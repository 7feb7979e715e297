-- Conditions over numbers, in pairs.
use Rattle.std.proofs.Common.{◌≡◌, ℕ, List, Some, ap, sym, ◌∙◌, subst, inl, inr}
use Rattle.std.specs.Prelude.{◌↔◌}
use Rattle.word_terms.specs.Tree.{MemTree, CondTree}
use Rattle.term_arena.specs.declared.node.Node.{Node}
use Rattle.term_arena.specs.declared.node.Node.TheVariants as node
use Rattle.term_arena.specs.Arena.{OfCond, as_cond, tree_of, trees_of, tree_over, mem_of, cond_of, IsCondAt, AreChildren, AreBelow}
use Rattle.triple_kernel.specs.Tree.{FactTree}
use Rattle.triple_kernel.specs.Swap.{SwapMem}
use Rattle.triple_kernel.specs.Rules.{Alike, SameAddresses, before_stores}
use Rattle.held_consequence.specs.declared.conditions.CondPairs.{CondPairs}
use Rattle.held_consequence.specs.inner.Following.{CondPairsAre, CondPairsFit, CondPairsAlike, CondPairsUnder}
use Rattle.held_terms.proofs.ChildLemmas.{children_under}

module _ (ns : List Node) where
  abbrev Over : Node → ℕ → Type 0
  Over n a = tree_of ns a ≡ Some (tree_over (trees_of ns) n)

  abbrev cond_at : Node → CondTree
  cond_at n = as_cond (Some (tree_over (trees_of ns) n))

  -- ---- two conditions

  pub conds_fit : (a : ℕ) (n m : Node) (ps : CondPairs) → AreBelow a n → AreChildren ns n → AreChildren ns m → CondPairsAre n m ps → CondPairsFit ns a ps
  conds_fit a (node.Compare cmp x y) (node.Compare o u v) ps low h k (inl e) = subst (CondPairsFit ns a) (sym e.1) (low.0, h.0, k.0, low.1, h.1, k.1)
  conds_fit a (node.Compare cmp x y) (node.Compare o u v) ps low h k (inr e) = subst (CondPairsFit ns a) (sym e.1) tt
  conds_fit a (node.Neg x) (node.Neg u) ps low h k e = subst (CondPairsFit ns a) (sym e) (low, h, k)
  conds_fit a (node.Inside width p x) (node.Inside w q u) ps low h k (inl e) = subst (CondPairsFit ns a) (sym e.1) (low.0, h.0, k.0, low.1, h.1, k.1)
  conds_fit a (node.Inside width p x) (node.Inside w q u) ps low h k (inr e) = subst (CondPairsFit ns a) (sym e.1) tt
  conds_fit a n m ps low h k e = subst (CondPairsFit ns a) (sym e) tt

  pub conds_under : (a b : ℕ) (n m : Node) (ps : CondPairs) → Over n a → Over m b → AreChildren ns n → AreChildren ns m → CondPairsAre n m ps → CondPairsUnder ns a b ps
  conds_under a b (node.Compare cmp x y) (node.Compare o u v) ps ea eb h k (inl e) =
      let one = children_under ns a (node.Compare cmp x y) ea h in
      let other = children_under ns b (node.Compare o u v) eb k in
      subst (CondPairsUnder ns a b) (sym e.1) (λ ts has. (one.0 ts has.0, other.0 ts has.1), λ ts has. (one.1 ts has.0, other.1 ts has.1))
  conds_under a b (node.Compare cmp x y) (node.Compare o u v) ps ea eb h k (inr e) = subst (CondPairsUnder ns a b) (sym e.1) tt
  conds_under a b (node.Neg x) (node.Neg u) ps ea eb h k e =
      let one = children_under ns a (node.Neg x) ea h in
      let other = children_under ns b (node.Neg u) eb k in
      subst (CondPairsUnder ns a b) (sym e) (λ ts has. (one ts has.0, other ts has.1))
  conds_under a b (node.Inside width p x) (node.Inside w q u) ps ea eb h k (inl e) =
      let one = children_under ns a (node.Inside width p x) ea h in
      let other = children_under ns b (node.Inside w q u) eb k in
      subst (CondPairsUnder ns a b) (sym e.1) (λ ts has. (one.0 ts has.0, other.0 ts has.1), λ ts has. (one.1 ts has.0, other.1 ts has.1))
  conds_under a b (node.Inside width p x) (node.Inside w q u) ps ea eb h k (inr e) = subst (CondPairsUnder ns a b) (sym e.1) tt
  conds_under a b n m ps ea eb h k e = subst (CondPairsUnder ns a b) (sym e) tt

  -- the node is that of a condition
  abbrev IsCondNode : Node → Type 0
  IsCondNode (node.Compare cmp x y) = Unit {0}
  IsCondNode (node.Neg x) = Unit {0}
  IsCondNode (node.Inside width p x) = Unit {0}
  IsCondNode n = ⊥

  cond_node : (n : Node) (c : CondTree) → Some (tree_over (trees_of ns) n) ≡ Some (OfCond c) → IsCondNode n
  cond_node (node.Compare cmp x y) c e = tt
  cond_node (node.Neg x) c e = tt
  cond_node (node.Inside width p x) c e = tt
  cond_node n c e = cc

  module _ (facts : List FactTree) where
    abbrev Split : Node → Node → CondPairs → Type 0
    Split n m ps = Alike facts (cond_at n) (cond_at m) ↔ CondPairsAlike facts ns ps

    cond_split : (n m : Node) (ps : CondPairs) → IsCondNode n → IsCondNode m → CondPairsAre n m ps → Split n m ps
    cond_split (node.Compare cmp x y) (node.Compare o u v) ps i j (inl e) = subst (Split (node.Compare cmp x y) (node.Compare o u v)) (sym e.1) (λ s. (s.1, s.2), λ s. (e.0, s.0, s.1))
    cond_split (node.Compare cmp x y) (node.Compare o u v) ps i j (inr e) = subst (Split (node.Compare cmp x y) (node.Compare o u v)) (sym e.1) (λ s. absurd (e.0 s.0), λ s. absurd s)
    cond_split (node.Neg x) (node.Neg u) ps i j e = subst (Split (node.Neg x) (node.Neg u)) (sym e) (λ s. s, λ s. s)
    cond_split (node.Inside width p x) (node.Inside w q u) ps i j (inl e) = subst (Split (node.Inside width p x) (node.Inside w q u)) (sym e.1) (λ s. (s.1, s.2), λ s. (e.0, s.0, s.1))
    cond_split (node.Inside width p x) (node.Inside w q u) ps i j (inr e) = subst (Split (node.Inside width p x) (node.Inside w q u)) (sym e.1) (λ s. absurd (e.0 s.0), λ s. absurd s)
    cond_split (node.Compare cmp x y) (node.Neg u) ps i j e = subst (Split (node.Compare cmp x y) (node.Neg u)) (sym e) (λ s. s, λ s. s)
    cond_split (node.Compare cmp x y) (node.Inside w q u) ps i j e = subst (Split (node.Compare cmp x y) (node.Inside w q u)) (sym e) (λ s. s, λ s. s)
    cond_split (node.Neg x) (node.Compare o u v) ps i j e = subst (Split (node.Neg x) (node.Compare o u v)) (sym e) (λ s. s, λ s. s)
    cond_split (node.Neg x) (node.Inside w q u) ps i j e = subst (Split (node.Neg x) (node.Inside w q u)) (sym e) (λ s. s, λ s. s)
    cond_split (node.Inside width p x) (node.Compare o u v) ps i j e = subst (Split (node.Inside width p x) (node.Compare o u v)) (sym e) (λ s. s, λ s. s)
    cond_split (node.Inside width p x) (node.Neg u) ps i j e = subst (Split (node.Inside width p x) (node.Neg u)) (sym e) (λ s. s, λ s. s)
    cond_split (node.Compare cmp x y) m ps i j e = absurd j
    cond_split (node.Neg x) m ps i j e = absurd j
    cond_split (node.Inside width p x) m ps i j e = absurd j
    cond_split n m ps i j e = absurd i

    -- .. of the numbers whose nodes these are
    pub conds_alike : (a b : ℕ) (n m : Node) (ps : CondPairs) → IsCondAt ns a → IsCondAt ns b → Over n a → Over m b → CondPairsAre n m ps
        → Alike facts (cond_of ns a) (cond_of ns b) ↔ CondPairsAlike facts ns ps
    conds_alike a b n m ps ha hb ea eb are =
        subst (λ (t : CondTree). Alike facts t (cond_of ns b) ↔ CondPairsAlike facts ns ps) (sym (ap as_cond ea))
        (subst (λ (u : CondTree). Alike facts (cond_at n) u ↔ CondPairsAlike facts ns ps) (sym (ap as_cond eb))
        (cond_split n m ps (cond_node n _ (sym ea ∙ ha)) (cond_node m _ (sym eb ∙ hb)) are))

    -- memories that may not be swapped as they are
    pub addresses_before : (m n p q : ℕ) (b : Type 0) → mem_of ns p ≡ before_stores (mem_of ns m) → mem_of ns q ≡ before_stores (mem_of ns n)
        → (b ↔ SwapMem facts (mem_of ns p) (mem_of ns q)) → (SwapMem facts (mem_of ns m) (mem_of ns n) → ⊥) → b ↔ SameAddresses facts (mem_of ns m) (mem_of ns n)
    addresses_before m n p q b ep eq is none = (
      λ x. inr (subst (λ (t : MemTree). SwapMem facts t (before_stores (mem_of ns n))) ep (subst (λ (t : MemTree). SwapMem facts (mem_of ns p) t) eq (is.0 x))),
      λ s. elim s [
        | inl h ↦ absurd (none h)
        | inr h ↦ is.1 (subst (λ (t : MemTree). SwapMem facts t (mem_of ns q)) (sym ep) (subst (λ (t : MemTree). SwapMem facts (before_stores (mem_of ns m)) t) (sym eq) h))
      ],
    )
