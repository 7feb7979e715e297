-- A term's value depends on the variables in it alone.
use Rattle.std.proofs.Common.{◌≡◌, ℕ, ◌<◌, arith, refl, sym, ◌∙◌, cond, false, List, [], ◌∷◌}
use Rattle.std.specs.Prelude.{not, nat_eq}
use Rattle.std.proofs.lemmas.Bool.Decides.{nat_tests}
use Rattle.rv_words.specs.Operation.{operation_value, extension_value, comparison_holds}
use Rattle.rv_words.specs.Bytes.{Bytes, bytes_of, inside, load, store}
use Rattle.word_terms.specs.Tree.{WordTree, MemTree, CondTree, Const, Var, Bin, Extend, Load, MemVar, Store, Compare, Neg, Inside}
use Rattle.word_terms.specs.Environment.{Environment, Extends, with_word, with_mem, with_words, with_mems}
use Rattle.word_terms.specs.Value.{word_value, mem_value, cond_holds}
use Rattle.word_terms.specs.Scope.{EachInWord, EachInMem, EachInCond, WordInScope, MemInScope, CondInScope}

module _ (e f : Environment) where
  abbrev AgreeOnWord : ℕ → Type 0
  AgreeOnWord i = e.word i ≡ f.word i

  abbrev AgreeOnMem : ℕ → Type 0
  AgreeOnMem i = e.mem i ≡ f.mem i

  mutual
    pub word_value-agree : (t : WordTree) → EachInWord AgreeOnWord AgreeOnMem t → word_value t e ≡ word_value t f
    word_value-agree (Const n) same = refl
    word_value-agree (Var i) same = same
    word_value-agree (Bin op a b) same = λ j. operation_value op (word_value-agree a same.0 j) (word_value-agree b same.1 j)
    word_value-agree (Extend ext a) same = λ j. extension_value ext (word_value-agree a same j)
    word_value-agree (Load width m a) same = λ j. load (bytes_of width) (mem_value-agree m same.0 j) (word_value-agree a same.1 j)

    pub mem_value-agree : (t : MemTree) → EachInMem AgreeOnWord AgreeOnMem t → mem_value t e ≡ mem_value t f
    mem_value-agree (MemVar i) same = same
    mem_value-agree (Store width m a v) same = λ j. store (bytes_of width) (mem_value-agree m same.0 j) (word_value-agree a same.1 j) (word_value-agree v same.2 j)

  pub cond_holds-agree : (t : CondTree) → EachInCond AgreeOnWord AgreeOnMem t → cond_holds t e ≡ cond_holds t f
  cond_holds-agree (Compare cmp a b) same = λ j. comparison_holds cmp (word_value-agree a same.0 j) (word_value-agree b same.1 j)
  cond_holds-agree (Neg c) same = λ j. not (cond_holds-agree c same j)
  cond_holds-agree (Inside width m a) same = λ j. inside (bytes_of width) (mem_value-agree m same.0 j) (word_value-agree a same.1 j)

-- what follows of each variable from two facts follows of the term
module _ (P Q P' Q' R S : ℕ → Type 0) (of_word : (i : ℕ) → P i → P' i → R i) (of_mem : (i : ℕ) → Q i → Q' i → S i) where
  mutual
    pub each_in_word-both : (t : WordTree) → EachInWord P Q t → EachInWord P' Q' t → EachInWord R S t
    each_in_word-both (Const n) a b = tt
    each_in_word-both (Var i) a b = of_word i a b
    each_in_word-both (Bin op x y) a b = (each_in_word-both x a.0 b.0, each_in_word-both y a.1 b.1)
    each_in_word-both (Extend ext x) a b = each_in_word-both x a b
    each_in_word-both (Load width m x) a b = (each_in_mem-both m a.0 b.0, each_in_word-both x a.1 b.1)

    pub each_in_mem-both : (t : MemTree) → EachInMem P Q t → EachInMem P' Q' t → EachInMem R S t
    each_in_mem-both (MemVar i) a b = of_mem i a b
    each_in_mem-both (Store width m x v) a b = (each_in_mem-both m a.0 b.0, each_in_word-both x a.1 b.1, each_in_word-both v a.2 b.2)

  pub each_in_cond-both : (t : CondTree) → EachInCond P Q t → EachInCond P' Q' t → EachInCond R S t
  each_in_cond-both (Compare cmp x y) a b = (each_in_word-both x a.0 b.0, each_in_word-both y a.1 b.1)
  each_in_cond-both (Neg c) a b = each_in_cond-both c a b
  each_in_cond-both (Inside width m x) a b = (each_in_mem-both m a.0 b.0, each_in_word-both x a.1 b.1)

-- what follows of each variable follows of the term
module _ (P Q R S : ℕ → Type 0) (of_word : (i : ℕ) → P i → R i) (of_mem : (i : ℕ) → Q i → S i) where
  abbrev twice_word : (i : ℕ) → P i → P i → R i
  twice_word i a b = of_word i a

  abbrev twice_mem : (i : ℕ) → Q i → Q i → S i
  twice_mem i a b = of_mem i a

  pub each_in_word-then : (t : WordTree) → EachInWord P Q t → EachInWord R S t
  each_in_word-then t a = each_in_word-both P Q P Q R S twice_word twice_mem t a a

  pub each_in_mem-then : (t : MemTree) → EachInMem P Q t → EachInMem R S t
  each_in_mem-then t a = each_in_mem-both P Q P Q R S twice_word twice_mem t a a

  pub each_in_cond-then : (t : CondTree) → EachInCond P Q t → EachInCond R S t
  each_in_cond-then t a = each_in_cond-both P Q P Q R S twice_word twice_mem t a a

-- ---- environments with more variables

pub extends-same : (e : Environment) → Extends e e
extends-same e = record { words = omega arith; mems = omega arith; word = λ i lt. refl; mem = λ i lt. refl }

pub extends-more : (e f g : Environment) → Extends e f → Extends f g → Extends e g
extends-more e f g a b = record {
  words = omega (arith, a.words, b.words);
  mems = omega (arith, a.mems, b.mems);
  word = λ i lt. a.word i lt ∙ b.word i (omega (arith, a.words));
  mem = λ i lt. a.mem i lt ∙ b.mem i (omega (arith, a.mems));
}

test-below : (i n : ℕ) → i < n → nat_eq i n ≡ false
test-below i n lt = grind (arith, nat_tests)

pub extends-with_word : (e : Environment) (n : ℕ) → Extends e (with_word e n)
extends-with_word e n = record {
  words = omega arith;
  mems = omega arith;
  word = λ i lt. λ j. cond (sym (test-below i e.words lt) j) n (e.word i);
  mem = λ i lt. refl;
}

pub extends-with_mem : (e : Environment) (m : Bytes) → Extends e (with_mem e m)
extends-with_mem e m = record {
  words = omega arith;
  mems = omega arith;
  word = λ i lt. refl;
  mem = λ i lt. λ j. cond (sym (test-below i e.mems lt) j) m (e.mem i);
}

pub extends-with_words : (e : Environment) (ns : List ℕ) → Extends e (with_words e ns)
extends-with_words e [] = extends-same e
extends-with_words e (n ∷ ns) = extends-more e (with_word e n) (with_words (with_word e n) ns) (extends-with_word e n) (extends-with_words (with_word e n) ns)

pub extends-with_mems : (e : Environment) (ms : List Bytes) → Extends e (with_mems e ms)
extends-with_mems e [] = extends-same e
extends-with_mems e (m ∷ ms) = extends-more e (with_mem e m) (with_mems (with_mem e m) ms) (extends-with_mem e m) (extends-with_mems (with_mem e m) ms)

module _ (e f : Environment) (more : Extends e f) where
  abbrev IsWord : ℕ → Type 0
  IsWord i = i < e.words

  abbrev IsMem : ℕ → Type 0
  IsMem i = i < e.mems

  pub word_value-extends : (t : WordTree) → WordInScope t e.words e.mems → word_value t e ≡ word_value t f
  word_value-extends t scope = word_value-agree e f t (each_in_word-then IsWord IsMem (AgreeOnWord e f) (AgreeOnMem e f) more.word more.mem t scope)

  pub mem_value-extends : (t : MemTree) → MemInScope t e.words e.mems → mem_value t e ≡ mem_value t f
  mem_value-extends t scope = mem_value-agree e f t (each_in_mem-then IsWord IsMem (AgreeOnWord e f) (AgreeOnMem e f) more.word more.mem t scope)

  pub cond_holds-extends : (t : CondTree) → CondInScope t e.words e.mems → cond_holds t e ≡ cond_holds t f
  cond_holds-extends t scope = cond_holds-agree e f t (each_in_cond-then IsWord IsMem (AgreeOnWord e f) (AgreeOnMem e f) more.word more.mem t scope)
