-- The values of terms in an environment.
use Rattle.std.specs.Prelude.{ℕ, Bool, not}
use Rattle.rv_words.specs.Operation.{operation_value, extension_value, comparison_holds}
use Rattle.rv_words.specs.Bytes.{Bytes, bytes_of, inside, load, store}
use Rattle.word_terms.specs.Tree.{WordTree, MemTree, CondTree, Const, Var, Bin, Extend, Load, MemVar, Store, Compare, Neg, Inside}
use Rattle.word_terms.specs.Environment.{Environment}

abbrev mutual
  -- a constant is itself, a variable its word, and an operation or extension has its value on those of its terms;
  -- a load is the number of the addressed bytes, low byte first, where an absent byte counts as 0
  pub word_value : WordTree → Environment → ℕ
  word_value (Const n) e = n
  word_value (Var i) e = e.word i
  word_value (Bin op a b) e = operation_value op (word_value a e) (word_value b e)
  word_value (Extend ext a) e = extension_value ext (word_value a e)
  word_value (Load width m a) e = load (bytes_of width) (mem_value m e) (word_value a e)

  -- a variable is its bytes, and a store changes those addressed bytes that are present, and no others
  pub mem_value : MemTree → Environment → Bytes
  mem_value (MemVar i) e = e.mem i
  mem_value (Store width m a v) e = store (bytes_of width) (mem_value m e) (word_value a e) (word_value v e)

-- whether the condition is true
abbrev pub cond_holds : CondTree → Environment → Bool
cond_holds (Compare cmp a b) e = comparison_holds cmp (word_value a e) (word_value b e)
cond_holds (Neg c) e = not (cond_holds c e)
cond_holds (Inside width m a) e = inside (bytes_of width) (mem_value m e) (word_value a e)
