-- What is stated to be equal may be swapped.
use Rattle.std.proofs.Common.{List, inl}
use Rattle.word_terms.specs.Tree.{WordTree, MemTree, Const, Var, Bin, Extend, Load, MemVar, Store}
use Rattle.triple_kernel.specs.Tree.{FactTree}
use Rattle.triple_kernel.specs.Swap.{WordsStated, MemsStated, SwapWord, SwapMem}

pub stated_words_swap : (facts : List FactTree) (a b : WordTree) → WordsStated facts a b → SwapWord facts a b
stated_words_swap facts (Const n) b is = is
stated_words_swap facts (Var i) b is = is
stated_words_swap facts (Bin op x y) b is = inl is
stated_words_swap facts (Extend ext x) b is = inl is
stated_words_swap facts (Load width m x) b is = inl is

pub stated_mems_swap : (facts : List FactTree) (a b : MemTree) → MemsStated facts a b → SwapMem facts a b
stated_mems_swap facts (MemVar i) b is = is
stated_mems_swap facts (Store width m x y) b is = inl is
