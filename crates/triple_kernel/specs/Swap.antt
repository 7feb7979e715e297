-- Terms that stated facts let stand for one another.
use Rattle.std.specs.Prelude.{◌≡◌, ◌⊎◌, ℕ, List}
use Rattle.std.specs.List.{Contains, AllZip}
use Rattle.rv_words.specs.declared.operation.Op.{Op}
use Rattle.rv_words.specs.declared.extension.Ext.{Ext}
use Rattle.rv_words.specs.declared.width.Width.{Width}
use Rattle.word_terms.specs.Tree.{WordTree, MemTree, Const, Var, Bin, Extend, Load, MemVar, Store}
use Rattle.sep_assert.specs.Tree.{AssertionTree}
use Rattle.triple_kernel.specs.Tree.{FactTree, WordIs, MemIs}

-- the two words are the same, or a fact says that they are equal, in either order
abbrev pub WordsStated : List FactTree → WordTree → WordTree → Type 0
WordsStated facts a b = (a ≡ b) ⊎ (Contains facts (WordIs a b) ⊎ Contains facts (WordIs b a))

-- .. and of two memories
abbrev pub MemsStated : List FactTree → MemTree → MemTree → Type 0
MemsStated facts a b = (a ≡ b) ⊎ (Contains facts (MemIs a b) ⊎ Contains facts (MemIs b a))

-- the term is that operation on two terms with P and Q
abbrev pub IsBin : Op → (WordTree → Type 0) → (WordTree → Type 0) → WordTree → Type 0
IsBin op P Q (Bin o a b) = (op ≡ o) × P a × Q b
IsBin op P Q t = ⊥

-- the term is that extension of a term with P
abbrev pub IsExtend : Ext → (WordTree → Type 0) → WordTree → Type 0
IsExtend ext P (Extend x a) = (ext ≡ x) × P a
IsExtend ext P t = ⊥

-- the term is a load of that width from a memory with P at an address with Q
abbrev pub IsLoad : Width → (MemTree → Type 0) → (WordTree → Type 0) → WordTree → Type 0
IsLoad width P Q (Load w m a) = (width ≡ w) × P m × Q a
IsLoad width P Q t = ⊥

-- the memory is one with P after a store of that width, at an address with Q, of a word with R
abbrev pub IsStore : Width → (MemTree → Type 0) → (WordTree → Type 0) → (WordTree → Type 0) → MemTree → Type 0
IsStore width P Q R (Store w m a v) = (width ≡ w) × P m × Q a × R v
IsStore width P Q R t = ⊥

-- the two are stated to be equal, or they have the same outermost form, and their children may be swapped in order
abbrev mutual
  pub SwapWord : List FactTree → WordTree → WordTree → Type 0
  SwapWord facts (Const n) t = WordsStated facts (Const n) t
  SwapWord facts (Var i) t = WordsStated facts (Var i) t
  SwapWord facts (Bin op a b) t = WordsStated facts (Bin op a b) t ⊎ IsBin op (SwapWord facts a) (SwapWord facts b) t
  SwapWord facts (Extend ext a) t = WordsStated facts (Extend ext a) t ⊎ IsExtend ext (SwapWord facts a) t
  SwapWord facts (Load width m a) t = WordsStated facts (Load width m a) t ⊎ IsLoad width (SwapMem facts m) (SwapWord facts a) t

  pub SwapMem : List FactTree → MemTree → MemTree → Type 0
  SwapMem facts (MemVar i) t = MemsStated facts (MemVar i) t
  SwapMem facts (Store width m a v) t =
      MemsStated facts (Store width m a v) t ⊎ IsStore width (SwapMem facts m) (SwapWord facts a) (SwapWord facts v) t

-- the same register, with terms that may be swapped
abbrev pub SwapRegister : List FactTree → ℕ × WordTree → ℕ × WordTree → Type 0
SwapRegister facts r q = (r.0 ≡ q.0) × SwapWord facts r.1 q.1

-- the program counters may be swapped, and as many registers and memories may be in order
pub record SwapAssertion (facts : List FactTree) (a b : AssertionTree) : Type 0 where
  pub pc : SwapWord facts a.pc b.pc
  pub regs : AllZip (SwapRegister facts) a.regs b.regs
  pub mems : AllZip (SwapMem facts) a.mems b.mems
