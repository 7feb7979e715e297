-- Assertions as trees: what contracts see of them, whatever their places in memory.
use Rattle.std.specs.Prelude.{ℕ, List, map}
use Rattle.word_terms.specs.Tree.{WordTree, MemTree, word_tree, mem_tree}
use Rattle.word_terms.specs.declared.term.Word.{Word}
use Rattle.sep_assert.specs.declared.assertion.Assertion.{Assertion}

-- what a program counter, some registers and some memories hold, as terms
pub record AssertionTree : Type 0 where
  pub pc : WordTree
  pub regs : List (ℕ × WordTree)
  pub mems : List MemTree

-- a register's number and the tree of its term
abbrev pub register_tree : ℕ × Word → ℕ × WordTree
register_tree r = (r.0, word_tree r.1)

-- the tree of an assertion
abbrev pub assertion_tree : Assertion → AssertionTree
assertion_tree a = record { pc = word_tree a.pc; regs = map register_tree a.regs; mems = map mem_tree a.mems }
