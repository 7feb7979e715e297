-- The variables and the constants that stand in terms.
use Rattle.std.specs.Prelude.{ℕ, ◌^◌, ◌<◌}
use Rattle.word_terms.specs.Tree.{WordTree, MemTree, CondTree, Const, Var, Bin, Extend, Load, MemVar, Store, Compare, Neg, Inside}

abbrev mutual
  -- P holds of each word variable in the term, and Q of each memory variable
  pub EachInWord : (ℕ → Type 0) → (ℕ → Type 0) → WordTree → Type 0
  EachInWord P Q (Const n) = Unit {0}
  EachInWord P Q (Var i) = P i
  EachInWord P Q (Bin op a b) = EachInWord P Q a × EachInWord P Q b
  EachInWord P Q (Extend ext a) = EachInWord P Q a
  EachInWord P Q (Load width m a) = EachInMem P Q m × EachInWord P Q a

  pub EachInMem : (ℕ → Type 0) → (ℕ → Type 0) → MemTree → Type 0
  EachInMem P Q (MemVar i) = Q i
  EachInMem P Q (Store width m a v) = EachInMem P Q m × EachInWord P Q a × EachInWord P Q v

abbrev pub EachInCond : (ℕ → Type 0) → (ℕ → Type 0) → CondTree → Type 0
EachInCond P Q (Compare cmp a b) = EachInWord P Q a × EachInWord P Q b
EachInCond P Q (Neg c) = EachInCond P Q c
EachInCond P Q (Inside width m a) = EachInMem P Q m × EachInWord P Q a

-- all variables of the term are among the first `words` and the first `mems`
abbrev pub WordInScope : WordTree → ℕ → ℕ → Type 0
WordInScope t words mems = EachInWord (λ i. i < words) (λ i. i < mems) t

abbrev pub MemInScope : MemTree → ℕ → ℕ → Type 0
MemInScope t words mems = EachInMem (λ i. i < words) (λ i. i < mems) t

abbrev pub CondInScope : CondTree → ℕ → ℕ → Type 0
CondInScope t words mems = EachInCond (λ i. i < words) (λ i. i < mems) t

abbrev mutual
  -- each constant in the term is a 64-bit word
  pub WordInRange : WordTree → Type 0
  WordInRange (Const n) = n < 2 ^ 64
  WordInRange (Var i) = Unit {0}
  WordInRange (Bin op a b) = WordInRange a × WordInRange b
  WordInRange (Extend ext a) = WordInRange a
  WordInRange (Load width m a) = MemInRange m × WordInRange a

  pub MemInRange : MemTree → Type 0
  MemInRange (MemVar i) = Unit {0}
  MemInRange (Store width m a v) = MemInRange m × WordInRange a × WordInRange v

abbrev pub CondInRange : CondTree → Type 0
CondInRange (Compare cmp a b) = WordInRange a × WordInRange b
CondInRange (Neg c) = CondInRange c
CondInRange (Inside width m a) = MemInRange m × WordInRange a
