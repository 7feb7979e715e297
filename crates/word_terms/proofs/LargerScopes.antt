-- Terms in scope are in scope where there are more variables.
use Rattle.std.proofs.Common.{ℕ, ◌<◌, ◌≤◌, arith}
use Rattle.word_terms.specs.Tree.{WordTree, MemTree, CondTree}
use Rattle.word_terms.specs.Scope.{WordInScope, MemInScope, CondInScope}
use Rattle.word_terms.proofs.Agreement.{each_in_word-then, each_in_mem-then, each_in_cond-then}

module _ (words mems w m : ℕ) (more_words : words ≤ w) (more_mems : mems ≤ m) where
  abbrev IsWord : ℕ → Type 0
  IsWord i = i < words

  abbrev IsMem : ℕ → Type 0
  IsMem i = i < mems

  abbrev IsWordThen : ℕ → Type 0
  IsWordThen i = i < w

  abbrev IsMemThen : ℕ → Type 0
  IsMemThen i = i < m

  of_word : (i : ℕ) → IsWord i → IsWordThen i
  of_word i lt = omega (arith, more_words)

  of_mem : (i : ℕ) → IsMem i → IsMemThen i
  of_mem i lt = omega (arith, more_mems)

  pub word_in_scope-more : (t : WordTree) → WordInScope t words mems → WordInScope t w m
  word_in_scope-more t s = each_in_word-then IsWord IsMem IsWordThen IsMemThen of_word of_mem t s

  pub mem_in_scope-more : (t : MemTree) → MemInScope t words mems → MemInScope t w m
  mem_in_scope-more t s = each_in_mem-then IsWord IsMem IsWordThen IsMemThen of_word of_mem t s

  pub cond_in_scope-more : (c : CondTree) → CondInScope c words mems → CondInScope c w m
  cond_in_scope-more c s = each_in_cond-then IsWord IsMem IsWordThen IsMemThen of_word of_mem c s
