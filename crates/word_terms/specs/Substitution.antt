-- Terms put in for variables, all at once.
use Rattle.std.specs.Prelude.{ℕ, ◌==◌, if◌then◌else◌, Option, Some, None, unwrap_or, option_map, List, [], ◌∷◌}
use Rattle.word_terms.specs.Tree.{WordTree, MemTree, CondTree, Const, Var, Bin, Extend, Load, MemVar, Store, Compare, Neg, Inside, word_tree, mem_tree}
use Rattle.word_terms.specs.Environment.{Environment}
use Rattle.word_terms.specs.Value.{word_value, mem_value}
use Rattle.word_terms.specs.declared.substitution.Sub.{Sub}

-- the term that is put in for each variable, or none
pub record Substitution : Type 0 where
  pub word : ℕ → Option WordTree
  pub mem : ℕ → Option MemTree

-- the term that comes to stand in a variable's place: an unlisted variable stays
abbrev pub word_for : Substitution → ℕ → WordTree
word_for s i = unwrap_or (s.word i) (Var i)

abbrev pub mem_for : Substitution → ℕ → MemTree
mem_for s i = unwrap_or (s.mem i) (MemVar i)

-- the term with all of its variables replaced
abbrev mutual
  pub put_in_word : Substitution → WordTree → WordTree
  put_in_word s (Const n) = Const n
  put_in_word s (Var i) = word_for s i
  put_in_word s (Bin op a b) = Bin op (put_in_word s a) (put_in_word s b)
  put_in_word s (Extend ext a) = Extend ext (put_in_word s a)
  put_in_word s (Load width m a) = Load width (put_in_mem s m) (put_in_word s a)

  pub put_in_mem : Substitution → MemTree → MemTree
  put_in_mem s (MemVar i) = mem_for s i
  put_in_mem s (Store width m a v) = Store width (put_in_mem s m) (put_in_word s a) (put_in_word s v)

abbrev pub put_in_cond : Substitution → CondTree → CondTree
put_in_cond s (Compare cmp a b) = Compare cmp (put_in_word s a) (put_in_word s b)
put_in_cond s (Neg c) = Neg (put_in_cond s c)
put_in_cond s (Inside width m a) = Inside width (put_in_mem s m) (put_in_word s a)

-- the environment in which each listed variable has its term's value
abbrev pub with_values_of : Environment → Substitution → Environment
with_values_of e s = record { word = λ i. word_value (word_for s i) e; words = e.words; mem = λ i. mem_value (mem_for s i) e; mems = e.mems }

-- what is listed for a number: the first, if there are several
abbrev pub listed : {A : Type 0} → List (ℕ × A) → ℕ → Option A
listed [] i = None
listed (p ∷ ps) i = if p.0 == i then Some p.1 else listed ps i

-- the substitution that lists of terms are
abbrev pub substitution_of : Sub → Substitution
substitution_of s = record { word = λ i. option_map word_tree (listed s.words i); mem = λ i. option_map mem_tree (listed s.mems i) }
