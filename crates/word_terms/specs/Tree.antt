-- Terms as trees: what contracts see of them, whatever their places in memory.
use Rattle.std.specs.Prelude.{ℕ, ◌+◌, ◌-◌, ◌^◌, max, min}
use Rattle.rv_words.specs.declared.operation.Op.{Op}
use Rattle.rv_words.specs.declared.extension.Ext.{Ext}
use Rattle.rv_words.specs.declared.comparison.Cmp.{Cmp}
use Rattle.rv_words.specs.declared.width.Width.{Width}
use Rattle.word_terms.specs.declared.term.Word.{Word}
use Rattle.word_terms.specs.declared.term.Word.TheVariants as word
use Rattle.word_terms.specs.declared.term.Mem.{Mem}
use Rattle.word_terms.specs.declared.term.Mem.TheVariants as mem
use Rattle.word_terms.specs.declared.term.Cond.{Cond}
use Rattle.word_terms.specs.declared.term.Cond.TheVariants as cond

mutual
  -- a term for a word: a constant, the word variable of that number, an operation on two terms, an extension of
  -- one, or what a memory has at an address
  pub data WordTree : Type 0 where
    Const : (n : ℕ) → WordTree
    Var : (i : ℕ) → WordTree
    Bin : (op : Op) (a b : WordTree) → WordTree
    Extend : (ext : Ext) (a : WordTree) → WordTree
    Load : (width : Width) (m : MemTree) (a : WordTree) → WordTree

  -- a term for a memory: the memory variable of that number, or a memory after a store of v at a
  pub data MemTree : Type 0 where
    MemVar : (i : ℕ) → MemTree
    Store : (width : Width) (m : MemTree) (a v : WordTree) → MemTree

-- a condition: a comparison of two terms, the contrary of a condition, or that a memory has all bytes of a width
pub data CondTree : Type 0 where
  Compare : (cmp : Cmp) (a b : WordTree) → CondTree
  Neg : (c : CondTree) → CondTree
  Inside : (width : Width) (m : MemTree) (a : WordTree) → CondTree

-- the trees of terms
abbrev mutual
  pub word_tree : Word → WordTree
  word_tree (word.Const n) = Const n
  word_tree (word.Var i) = Var i
  word_tree (word.Bin' op p a q b) = Bin op (word_tree a) (word_tree b)
  word_tree (word.Extend' ext p a) = Extend ext (word_tree a)
  word_tree (word.Load' width p m q a) = Load width (mem_tree m) (word_tree a)

  pub mem_tree : Mem → MemTree
  mem_tree (mem.Var i) = MemVar i
  mem_tree (mem.Store' width p m q a r v) = Store width (mem_tree m) (word_tree a) (word_tree v)

abbrev pub cond_tree : Cond → CondTree
cond_tree (cond.Compare cmp a b) = Compare cmp (word_tree a.value) (word_tree b.value)
cond_tree (cond.Neg' p c) = Neg (cond_tree c)
cond_tree (cond.Inside width m a) = Inside width (mem_tree m.value) (word_tree a.value)

-- a constant or a variable has depth 1, any other term one more than its deepest child
abbrev mutual
  pub depth_of_word : WordTree → ℕ
  depth_of_word (Const n) = 1
  depth_of_word (Var i) = 1
  depth_of_word (Bin op a b) = max (depth_of_word a) (depth_of_word b) + 1
  depth_of_word (Extend ext a) = depth_of_word a + 1
  depth_of_word (Load width m a) = max (depth_of_mem m) (depth_of_word a) + 1

  pub depth_of_mem : MemTree → ℕ
  depth_of_mem (MemVar i) = 1
  depth_of_mem (Store width m a v) = max (depth_of_mem m) (max (depth_of_word a) (depth_of_word v)) + 1

abbrev pub depth_of_cond : CondTree → ℕ
depth_of_cond (Compare cmp a b) = max (depth_of_word a) (depth_of_word b) + 1
depth_of_cond (Neg c) = depth_of_cond c + 1
depth_of_cond (Inside width m a) = max (depth_of_mem m) (depth_of_word a) + 1

-- a depth as a 32-bit counter tells it: 2 ^ 32 - 1 for all that are larger
abbrev pub told_depth : ℕ → ℕ
told_depth n = min n (2 ^ 32 - 1)
