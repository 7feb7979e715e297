-- Two terms may be swapped where they are stated or where their children may be.
use Rattle.std.proofs.Common.{◌≡◌, ◌⊎◌, ℕ, List, Some, ap, sym, subst, inl, inr}
use Rattle.std.specs.Prelude.{◌↔◌}
use Rattle.word_terms.specs.Tree.{WordTree, MemTree}
use Rattle.term_arena.specs.declared.node.Node.{Node}
use Rattle.term_arena.specs.declared.node.Node.TheVariants as node
use Rattle.term_arena.specs.Arena.{as_word, as_mem, tree_of, trees_of, tree_over, word_of, mem_of, AreChildren, AreBelow}
use Rattle.triple_kernel.specs.Tree.{FactTree}
use Rattle.triple_kernel.specs.Swap.{SwapWord, SwapMem, WordsStated, MemsStated}
use Rattle.held_consequence.specs.declared.swaps.WordPairs.{WordPairs}
use Rattle.held_consequence.specs.declared.swaps.MemPairs.{MemPairs}
use Rattle.held_consequence.specs.inner.Pairs.{WordPairsAre, MemPairsAre, WordPairsFit, MemPairsFit, WordPairsSwap, MemPairsSwap}

-- what a node's word is
abbrev word_at : List Node → Node → WordTree
word_at ns n = as_word (Some (tree_over (trees_of ns) n))

abbrev mem_at : List Node → Node → MemTree
mem_at ns n = as_mem (Some (tree_over (trees_of ns) n))

-- of one form: the children count; of two: only what is stated
same_1 : {S P E : Type 0} → E → (S ⊎ (E × P)) ↔ (S ⊎ P)
same_1 e = (λ s. elim s [ inl a ↦ inl a | inr b ↦ inr b.1 ], λ s. elim s [ inl a ↦ inl a | inr b ↦ inr (e, b) ])

same_2 : {S P Q E : Type 0} → E → (S ⊎ (E × P × Q)) ↔ (S ⊎ (P × Q))
same_2 e = (λ s. elim s [ inl a ↦ inl a | inr b ↦ inr (b.1, b.2) ], λ s. elim s [ inl a ↦ inl a | inr b ↦ inr (e, b.0, b.1) ])

same_3 : {S P Q R E : Type 0} → E → (S ⊎ (E × P × Q × R)) ↔ (S ⊎ (P × Q × R))
same_3 e = (λ s. elim s [ inl a ↦ inl a | inr b ↦ inr (b.1, b.2, b.3) ], λ s. elim s [ inl a ↦ inl a | inr b ↦ inr (e, b.0, b.1, b.2) ])

other_1 : {S P E : Type 0} → (E → ⊥) → (S ⊎ (E × P)) ↔ (S ⊎ ⊥)
other_1 differ = (λ s. elim s [ inl a ↦ inl a | inr b ↦ absurd (differ b.0) ], λ s. elim s [ inl a ↦ inl a | inr b ↦ absurd b ])

other_2 : {S P Q E : Type 0} → (E → ⊥) → (S ⊎ (E × P × Q)) ↔ (S ⊎ ⊥)
other_2 differ = (λ s. elim s [ inl a ↦ inl a | inr b ↦ absurd (differ b.0) ], λ s. elim s [ inl a ↦ inl a | inr b ↦ absurd b ])

other_3 : {S P Q R E : Type 0} → (E → ⊥) → (S ⊎ (E × P × Q × R)) ↔ (S ⊎ ⊥)
other_3 differ = (λ s. elim s [ inl a ↦ inl a | inr b ↦ absurd (differ b.0) ], λ s. elim s [ inl a ↦ inl a | inr b ↦ absurd b ])

no_form : {S : Type 0} → S ↔ (S ⊎ ⊥)
no_form = (λ s. inl s, λ s. elim s [ inl a ↦ a | inr b ↦ absurd b ])

same : {S : Type 0} → S ↔ S
same = (λ s. s, λ s. s)

module _ (ns : List Node) (facts : List FactTree) where
  abbrev WordSplit : Node → Node → WordPairs → Type 0
  WordSplit n m ps = SwapWord facts (word_at ns n) (word_at ns m) ↔ (WordsStated facts (word_at ns n) (word_at ns m) ⊎ WordPairsSwap facts ns ps)

  word_split : (n m : Node) (ps : WordPairs) → WordPairsAre n m ps → WordSplit n m ps
  word_split (node.Bin op x y) (node.Bin o u v) ps (inl e) = subst (WordSplit (node.Bin op x y) (node.Bin o u v)) (sym e.1) (same_2 e.0)
  word_split (node.Bin op x y) (node.Bin o u v) ps (inr e) = subst (WordSplit (node.Bin op x y) (node.Bin o u v)) (sym e.1) (other_2 e.0)
  word_split (node.Extend ext x) (node.Extend f u) ps (inl e) = subst (WordSplit (node.Extend ext x) (node.Extend f u)) (sym e.1) (same_1 e.0)
  word_split (node.Extend ext x) (node.Extend f u) ps (inr e) = subst (WordSplit (node.Extend ext x) (node.Extend f u)) (sym e.1) (other_1 e.0)
  word_split (node.Load width p x) (node.Load w q u) ps (inl e) = subst (WordSplit (node.Load width p x) (node.Load w q u)) (sym e.1) (same_2 e.0)
  word_split (node.Load width p x) (node.Load w q u) ps (inr e) = subst (WordSplit (node.Load width p x) (node.Load w q u)) (sym e.1) (other_2 e.0)
  word_split (node.Bin op x y) m ps e = subst (WordSplit (node.Bin op x y) m) (sym e) same
  word_split (node.Extend ext x) m ps e = subst (WordSplit (node.Extend ext x) m) (sym e) same
  word_split (node.Load width p x) m ps e = subst (WordSplit (node.Load width p x) m) (sym e) same
  word_split n m ps e = subst (WordSplit n m) (sym e) no_form

  abbrev MemSplit : Node → Node → MemPairs → Type 0
  MemSplit n m ps = SwapMem facts (mem_at ns n) (mem_at ns m) ↔ (MemsStated facts (mem_at ns n) (mem_at ns m) ⊎ MemPairsSwap facts ns ps)

  mem_split : (n m : Node) (ps : MemPairs) → MemPairsAre n m ps → MemSplit n m ps
  mem_split (node.Store width p x y) (node.Store w q u v) ps (inl e) = subst (MemSplit (node.Store width p x y) (node.Store w q u v)) (sym e.1) (same_3 e.0)
  mem_split (node.Store width p x y) (node.Store w q u v) ps (inr e) = subst (MemSplit (node.Store width p x y) (node.Store w q u v)) (sym e.1) (other_3 e.0)
  mem_split (node.Store width p x y) m ps e = subst (MemSplit (node.Store width p x y) m) (sym e) same
  mem_split n m ps e = subst (MemSplit n m) (sym e) no_form

  -- .. of the numbers whose nodes these are
  pub words_split : (a b : ℕ) (n m : Node) (ps : WordPairs) → tree_of ns a ≡ Some (tree_over (trees_of ns) n) → tree_of ns b ≡ Some (tree_over (trees_of ns) m) → WordPairsAre n m ps
      → SwapWord facts (word_of ns a) (word_of ns b) ↔ (WordsStated facts (word_of ns a) (word_of ns b) ⊎ WordPairsSwap facts ns ps)
  words_split a b n m ps ea eb are =
      subst (λ (t : WordTree). SwapWord facts t (word_of ns b) ↔ (WordsStated facts t (word_of ns b) ⊎ WordPairsSwap facts ns ps)) (sym (ap as_word ea))
      (subst (λ (u : WordTree). SwapWord facts (word_at ns n) u ↔ (WordsStated facts (word_at ns n) u ⊎ WordPairsSwap facts ns ps)) (sym (ap as_word eb)) (word_split n m ps are))

  pub mems_split : (a b : ℕ) (n m : Node) (ps : MemPairs) → tree_of ns a ≡ Some (tree_over (trees_of ns) n) → tree_of ns b ≡ Some (tree_over (trees_of ns) m) → MemPairsAre n m ps
      → SwapMem facts (mem_of ns a) (mem_of ns b) ↔ (MemsStated facts (mem_of ns a) (mem_of ns b) ⊎ MemPairsSwap facts ns ps)
  mems_split a b n m ps ea eb are =
      subst (λ (t : MemTree). SwapMem facts t (mem_of ns b) ↔ (MemsStated facts t (mem_of ns b) ⊎ MemPairsSwap facts ns ps)) (sym (ap as_mem ea))
      (subst (λ (u : MemTree). SwapMem facts (mem_at ns n) u ↔ (MemsStated facts (mem_at ns n) u ⊎ MemPairsSwap facts ns ps)) (sym (ap as_mem eb)) (mem_split n m ps are))

-- the children are below, and there
pub words_fit : (ns : List Node) (a : ℕ) (n m : Node) (ps : WordPairs) → AreBelow a n → AreChildren ns n → AreChildren ns m → WordPairsAre n m ps → WordPairsFit ns a ps
words_fit ns a (node.Bin op x y) (node.Bin o u v) ps low h k (inl e) = subst (WordPairsFit ns a) (sym e.1) (low.0, h.0, k.0, low.1, h.1, k.1)
words_fit ns a (node.Bin op x y) (node.Bin o u v) ps low h k (inr e) = subst (WordPairsFit ns a) (sym e.1) tt
words_fit ns a (node.Extend ext x) (node.Extend f u) ps low h k (inl e) = subst (WordPairsFit ns a) (sym e.1) (low, h, k)
words_fit ns a (node.Extend ext x) (node.Extend f u) ps low h k (inr e) = subst (WordPairsFit ns a) (sym e.1) tt
words_fit ns a (node.Load width p x) (node.Load w q u) ps low h k (inl e) = subst (WordPairsFit ns a) (sym e.1) (low.0, h.0, k.0, low.1, h.1, k.1)
words_fit ns a (node.Load width p x) (node.Load w q u) ps low h k (inr e) = subst (WordPairsFit ns a) (sym e.1) tt
words_fit ns a n m ps low h k e = subst (WordPairsFit ns a) (sym e) tt

pub mems_fit : (ns : List Node) (a : ℕ) (n m : Node) (ps : MemPairs) → AreBelow a n → AreChildren ns n → AreChildren ns m → MemPairsAre n m ps → MemPairsFit ns a ps
mems_fit ns a (node.Store width p x y) (node.Store w q u v) ps low h k (inl e) = subst (MemPairsFit ns a) (sym e.1) (low.0, h.0, k.0, low.1, h.1, k.1, low.2, h.2, k.2)
mems_fit ns a (node.Store width p x y) (node.Store w q u v) ps low h k (inr e) = subst (MemPairsFit ns a) (sym e.1) tt
mems_fit ns a n m ps low h k e = subst (MemPairsFit ns a) (sym e) tt
