-- Facts and triples as trees: what contracts see of them, whatever their places in memory.
use Rattle.std.specs.Prelude.{ℕ, List, map}
use Rattle.word_terms.specs.Tree.{WordTree, MemTree, CondTree, word_tree, mem_tree, cond_tree}
use Rattle.rv_words.specs.declared.range.Range.{Range}
use Rattle.tailrec_lang.specs.Tree.{ValuesTree, values_tree}
use Rattle.sep_assert.specs.Tree.{AssertionTree, assertion_tree}
use Rattle.triple_kernel.specs.declared.triple.Fact.{Fact}
use Rattle.triple_kernel.specs.declared.triple.Fact.TheVariants as fact
use Rattle.triple_kernel.specs.declared.triple.Triple.{Triple}

-- a fact about what the variables stand for: two words are equal, two memories are, a condition is true, or a
-- definition of the group that is entered with these arguments leaves by that exit with these results
pub data FactTree : Type 0 where
  WordIs : (a b : WordTree) → FactTree
  MemIs : (a b : MemTree) → FactTree
  So : (c : CondTree) → FactTree
  Gives : (def exit : ℕ) (args results : ValuesTree) → FactTree

-- a Hoare triple: where the facts hold, code leads from what `pre` describes to what `post` describes
pub record TripleTree : Type 0 where
  pub facts : List FactTree
  pub pre : AssertionTree
  pub code : List Range
  pub post : AssertionTree

-- the tree of a fact
abbrev pub fact_tree : Fact → FactTree
fact_tree (fact.WordIs a b) = WordIs (word_tree a) (word_tree b)
fact_tree (fact.MemIs a b) = MemIs (mem_tree a) (mem_tree b)
fact_tree (fact.So c) = So (cond_tree c)
fact_tree (fact.Gives def exit args results) = Gives def exit (values_tree args) (values_tree results)

-- the tree of a triple
abbrev pub triple_tree : Triple → TripleTree
triple_tree t = record { facts = map fact_tree t.facts; pre = assertion_tree t.pre; code = t.code.ranges; post = assertion_tree t.post }
