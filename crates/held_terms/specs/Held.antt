-- What triples over the numbers of an arena stand for.
use Rattle.std.specs.Prelude.{ℕ, All, List, map}
use Rattle.term_arena.specs.declared.node.Node.{Node}
use Rattle.term_arena.specs.Arena.{word_of, mem_of, cond_of, IsWordAt, IsMemAt, IsCondAt}
use Rattle.word_terms.specs.Tree.{WordTree}
use Rattle.tailrec_lang.specs.Tree.{ValuesTree}
use Rattle.sep_assert.specs.Tree.{AssertionTree}
use Rattle.triple_kernel.specs.Tree.{FactTree, WordIs, MemIs, So, Gives, TripleTree}
use Rattle.held_terms.specs.declared.held.HeldValues.{HeldValues}
use Rattle.held_terms.specs.declared.held.HeldFact.{HeldFact}
use Rattle.held_terms.specs.declared.held.HeldFact.TheVariants as held
use Rattle.held_terms.specs.declared.held.HeldSide.{HeldSide}
use Rattle.held_terms.specs.declared.held.Held.{Held}

-- ---- what the numbers stand for, part by part

-- the values, the fact, the register, the assertion, the triple that numbers stand for
abbrev pub values_over : List Node → HeldValues → ValuesTree
values_over ns v = record { words = map (word_of ns) v.words; mems = map (mem_of ns) v.mems }

abbrev pub fact_of : List Node → HeldFact → FactTree
fact_of ns (held.WordIs a b) = WordIs (word_of ns a) (word_of ns b)
fact_of ns (held.MemIs a b) = MemIs (mem_of ns a) (mem_of ns b)
fact_of ns (held.So c) = So (cond_of ns c)
fact_of ns (held.Gives def exit args results) = Gives def exit (values_over ns args) (values_over ns results)

abbrev pub register_of : List Node → ℕ × ℕ → ℕ × WordTree
register_of ns r = (r.0, word_of ns r.1)

abbrev pub side_of : List Node → HeldSide → AssertionTree
side_of ns s = record { pc = word_of ns s.pc; regs = map (register_of ns) s.regs; mems = map (mem_of ns) s.mems }

abbrev pub triple_of : List Node → Held → TripleTree
triple_of ns h = record { facts = map (fact_of ns) h.facts; pre = side_of ns h.pre; code = h.code.ranges; post = side_of ns h.post }

-- ---- all of the numbers are there, each of its kind

-- the numbers are those of terms for words, of terms for memories
abbrev pub AreWordsAt : List Node → List ℕ → Type 0
AreWordsAt ns ks = All (λ k. IsWordAt ns k) ks

abbrev pub AreMemsAt : List Node → List ℕ → Type 0
AreMemsAt ns ks = All (λ k. IsMemAt ns k) ks

-- .. of what the registers hold
abbrev pub AreRegistersAt : List Node → List (ℕ × ℕ) → Type 0
AreRegistersAt ns rs = All (λ r. IsWordAt ns r.1) rs

-- each number of the values, of the fact, of the assertion, of the triple is there
pub record AreValuesAt (ns : List Node) (v : HeldValues) : Type 0 where
  pub words : AreWordsAt ns v.words
  pub mems : AreMemsAt ns v.mems

abbrev pub IsFactAt : List Node → HeldFact → Type 0
IsFactAt ns (held.WordIs a b) = IsWordAt ns a × IsWordAt ns b
IsFactAt ns (held.MemIs a b) = IsMemAt ns a × IsMemAt ns b
IsFactAt ns (held.So c) = IsCondAt ns c
IsFactAt ns (held.Gives def exit args results) = AreValuesAt ns args × AreValuesAt ns results

abbrev pub AreFactsAt : List Node → List HeldFact → Type 0
AreFactsAt ns fs = All (λ f. IsFactAt ns f) fs

pub record IsSideAt (ns : List Node) (s : HeldSide) : Type 0 where
  pub pc : IsWordAt ns s.pc
  pub regs : AreRegistersAt ns s.regs
  pub mems : AreMemsAt ns s.mems

pub record IsHeldAt (ns : List Node) (h : Held) : Type 0 where
  pub facts : AreFactsAt ns h.facts
  pub pre : IsSideAt ns h.pre
  pub post : IsSideAt ns h.post
