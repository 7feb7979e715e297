-- Why rewriting ends: each law makes the term lighter. Every node weighs 2, and a sum with a constant in front 1 more;
-- so each law but 24 takes 2 or more away and may bring one constant in front of a sum, and law 24 takes 1 away.
use Rattle.std.specs.Prelude.{ℕ, ◌+◌}
use Rattle.rv_words.specs.declared.operation.Op.{Op}
use Rattle.rv_words.specs.declared.operation.Op.TheVariants.{Add}
use Rattle.word_terms.specs.Tree.{WordTree, Const, Var, Bin, Extend, Load, MemTree, MemVar, Store, CondTree, Compare, Neg, Inside}

-- 1 for a constant
abbrev pub one_const : WordTree → ℕ
one_const (Const n) = 1
one_const _ = 0

-- 1 for a constant in front of a sum
abbrev pub in_front : Op → WordTree → ℕ
in_front Add a = one_const a
in_front _ a = 0

abbrev mutual
  pub word_weight : WordTree → ℕ
  word_weight (Const n) = 2
  word_weight (Var i) = 2
  word_weight (Bin op a b) = 2 + in_front op a + word_weight a + word_weight b
  word_weight (Extend ext a) = 2 + word_weight a
  word_weight (Load width m a) = 2 + mem_weight m + word_weight a

  pub mem_weight : MemTree → ℕ
  mem_weight (MemVar i) = 2
  mem_weight (Store width m a v) = 2 + mem_weight m + word_weight a + word_weight v

abbrev pub cond_weight : CondTree → ℕ
cond_weight (Compare cmp a b) = 2 + word_weight a + word_weight b
cond_weight (Neg c) = 2 + cond_weight c
cond_weight (Inside width m a) = 2 + mem_weight m + word_weight a
