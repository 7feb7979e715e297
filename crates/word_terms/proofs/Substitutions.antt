-- The value of a term after a substitution.
use Rattle.std.proofs.Common.{◌≡◌, refl}
use Rattle.std.specs.Prelude.{not}
use Rattle.rv_words.specs.Operation.{operation_value, extension_value, comparison_holds}
use Rattle.rv_words.specs.Bytes.{bytes_of, inside, load, store}
use Rattle.word_terms.specs.Tree.{WordTree, MemTree, CondTree, Const, Var, Bin, Extend, Load, MemVar, Store, Compare, Neg, Inside}
use Rattle.word_terms.specs.Environment.{Environment}
use Rattle.word_terms.specs.Value.{word_value, mem_value, cond_holds}
use Rattle.word_terms.specs.Substitution.{Substitution, put_in_word, put_in_mem, put_in_cond, with_values_of}

module _ (s : Substitution) (e : Environment) where
  mutual
    pub word_value-put_in : (t : WordTree) → word_value (put_in_word s t) e ≡ word_value t (with_values_of e s)
    word_value-put_in (Const n) = refl
    word_value-put_in (Var i) = refl
    word_value-put_in (Bin op a b) = λ j. operation_value op (word_value-put_in a j) (word_value-put_in b j)
    word_value-put_in (Extend ext a) = λ j. extension_value ext (word_value-put_in a j)
    word_value-put_in (Load width m a) = λ j. load (bytes_of width) (mem_value-put_in m j) (word_value-put_in a j)

    pub mem_value-put_in : (t : MemTree) → mem_value (put_in_mem s t) e ≡ mem_value t (with_values_of e s)
    mem_value-put_in (MemVar i) = refl
    mem_value-put_in (Store width m a v) = λ j. store (bytes_of width) (mem_value-put_in m j) (word_value-put_in a j) (word_value-put_in v j)

  pub cond_holds-put_in : (t : CondTree) → cond_holds (put_in_cond s t) e ≡ cond_holds t (with_values_of e s)
  cond_holds-put_in (Compare cmp a b) = λ j. comparison_holds cmp (word_value-put_in a j) (word_value-put_in b j)
  cond_holds-put_in (Neg c) = λ j. not (cond_holds-put_in c j)
  cond_holds-put_in (Inside width m a) = λ j. inside (bytes_of width) (mem_value-put_in m j) (word_value-put_in a j)
