-- Terms that may be swapped have the same value where the facts hold.
use Rattle.std.proofs.Common.{◌≡◌, ℕ, inl, inr, List, [], ◌∷◌, sym, ◌∙◌, refl}
use Rattle.std.specs.Prelude.{not}
use Rattle.std.specs.List.{AllZip}
use Rattle.rv_words.specs.Operation.{operation_value, extension_value, comparison_holds}
use Rattle.rv_words.specs.Bytes.{bytes_of, inside, load, store}
use Rattle.word_terms.specs.Tree.{WordTree, MemTree, CondTree, Const, Var, Bin, Extend, Load, MemVar, Store, Compare, Neg, Inside}
use Rattle.word_terms.specs.Environment.{Environment}
use Rattle.word_terms.specs.Value.{word_value, mem_value, cond_holds}
use Rattle.word_terms.proofs.Stores.{inside-store}
use Rattle.tailrec_lang.specs.Tree.{GroupTree}
use Rattle.sep_assert.specs.Tree.{AssertionTree}
use Rattle.sep_assert.specs.Part.{◌⊕◌, pc_part, register_part, bytes_part, registers_part, mems_part, part_of}
use Rattle.triple_kernel.specs.Tree.{FactTree, WordIs, MemIs}
use Rattle.triple_kernel.specs.Fact.{AllHold}
use Rattle.triple_kernel.specs.Swap.{WordsStated, MemsStated, SwapWord, SwapMem, SwapRegister, SwapAssertion}
use Rattle.triple_kernel.specs.Rules.{SameAddresses, before_stores, Alike}

module _ (g : GroupTree) (e : Environment) (facts : List FactTree) (holds : AllHold g e facts) where
  words_stated-value : (a b : WordTree) → WordsStated facts a b → word_value a e ≡ word_value b e
  words_stated-value a b (inl same) = λ i. word_value (same i) e
  words_stated-value a b (inr (inl is)) = holds (WordIs a b) is
  words_stated-value a b (inr (inr is)) = sym (holds (WordIs b a) is)

  mems_stated-value : (a b : MemTree) → MemsStated facts a b → mem_value a e ≡ mem_value b e
  mems_stated-value a b (inl same) = λ i. mem_value (same i) e
  mems_stated-value a b (inr (inl is)) = holds (MemIs a b) is
  mems_stated-value a b (inr (inr is)) = sym (holds (MemIs b a) is)

  mutual
    pub swap_word-value : (a b : WordTree) → SwapWord facts a b → word_value a e ≡ word_value b e
    swap_word-value (Const n) t swap = words_stated-value (Const n) t swap
    swap_word-value (Var i) t swap = words_stated-value (Var i) t swap
    swap_word-value (Bin op a b) t (inl is) = words_stated-value (Bin op a b) t is
    swap_word-value (Bin op a b) (Bin o c d) (inr is) = λ i. operation_value (is.0 i) (swap_word-value a c is.1 i) (swap_word-value b d is.2 i)
    swap_word-value (Bin op a b) t (inr is) = absurd is
    swap_word-value (Extend ext a) t (inl is) = words_stated-value (Extend ext a) t is
    swap_word-value (Extend ext a) (Extend x c) (inr is) = λ i. extension_value (is.0 i) (swap_word-value a c is.1 i)
    swap_word-value (Extend ext a) t (inr is) = absurd is
    swap_word-value (Load width m a) t (inl is) = words_stated-value (Load width m a) t is
    swap_word-value (Load width m a) (Load w n c) (inr is) = λ i. load (bytes_of (is.0 i)) (swap_mem-value m n is.1 i) (swap_word-value a c is.2 i)
    swap_word-value (Load width m a) t (inr is) = absurd is

    pub swap_mem-value : (a b : MemTree) → SwapMem facts a b → mem_value a e ≡ mem_value b e
    swap_mem-value (MemVar i) t swap = mems_stated-value (MemVar i) t swap
    swap_mem-value (Store width m a v) t (inl is) = mems_stated-value (Store width m a v) t is
    swap_mem-value (Store width m a v) (Store w n c u) (inr is) =
        λ i. store (bytes_of (is.0 i)) (swap_mem-value m n is.1 i) (swap_word-value a c is.2 i) (swap_word-value v u is.3 i)
    swap_mem-value (Store width m a v) t (inr is) = absurd is

  swap_registers-part : (rs qs : List (ℕ × WordTree)) → AllZip (SwapRegister facts) rs qs → registers_part rs e ≡ registers_part qs e
  swap_registers-part [] [] swap = refl
  swap_registers-part (r ∷ rs) (q ∷ qs) swap = λ i. register_part (swap.0.0 i) (swap_word-value r.1 q.1 swap.0.1 i) ⊕ swap_registers-part rs qs swap.1 i
  swap_registers-part rs qs swap = absurd swap

  swap_mems-part : (ms ns : List MemTree) → AllZip (SwapMem facts) ms ns → mems_part ms e ≡ mems_part ns e
  swap_mems-part [] [] swap = refl
  swap_mems-part (m ∷ ms) (n ∷ ns) swap = λ i. bytes_part (swap_mem-value m n swap.0 i) ⊕ swap_mems-part ms ns swap.1 i
  swap_mems-part ms ns swap = absurd swap

  -- assertions that may be swapped describe the same part
  pub swap-part : (a b : AssertionTree) → SwapAssertion facts a b → part_of a e ≡ part_of b e
  swap-part a b swap = λ i. pc_part (swap_word-value a.pc b.pc swap.pc i) ⊕ (swap_registers-part a.regs b.regs swap.regs i ⊕ swap_mems-part a.mems b.mems swap.mems i)

  inside-before_stores : (n : ℕ) (m : MemTree) (a : ℕ) → inside n (mem_value m e) a ≡ inside n (mem_value (before_stores m) e) a
  inside-before_stores n (MemVar i) a = refl
  inside-before_stores n (Store width m at v) a =
      inside-store (bytes_of width) n (mem_value m e) (word_value at e) (word_value v e) a ∙ inside-before_stores n m a

  same_addresses-inside : (n : ℕ) (m k : MemTree) (a : ℕ) → SameAddresses facts m k → inside n (mem_value m e) a ≡ inside n (mem_value k e) a
  same_addresses-inside n m k a (inl swap) = λ i. inside n (swap_mem-value m k swap i) a
  same_addresses-inside n m k a (inr swap) =
      inside-before_stores n m a
      ∙ (λ i. inside n (swap_mem-value (before_stores m) (before_stores k) swap i) a)
      ∙ sym (inside-before_stores n k a)

  -- conditions that are alike are true together
  pub alike-holds : (c d : CondTree) → Alike facts c d → cond_holds c e ≡ cond_holds d e
  alike-holds (Compare cmp a b) (Compare o c d) is = λ i. comparison_holds (is.0 i) (swap_word-value a c is.1 i) (swap_word-value b d is.2 i)
  alike-holds (Compare cmp a b) d is = absurd is
  alike-holds (Neg c) (Neg d) is = λ i. not (alike-holds c d is i)
  alike-holds (Neg c) d is = absurd is
  alike-holds (Inside width m a) (Inside w k b) is =
      (λ i. inside (bytes_of (is.0 i)) (mem_value m e) (swap_word-value a b is.2 i)) ∙ same_addresses-inside (bytes_of w) m k (word_value b e) is.1
  alike-holds (Inside width m a) d is = absurd is
