-- The terms of facts, assertions and triples, in order, how many nodes they have, and terms that were put into an arena one after the other.
use Rattle.std.specs.Prelude.{ℕ, ◌+◌, ◌*◌, All, List, [], ◌∷◌, ◌++◌, Option, Some, None, flat_map, length, map}
use Rattle.term_arena.specs.declared.node.Node.{Node}
use Rattle.term_arena.specs.Arena.{Tree, OfWord, OfMem, OfCond, ArePutIn, cond_nodes, cond_subterms, mem_nodes, mem_subterms, trees_of, word_nodes, word_subterms}
use Rattle.tailrec_lang.specs.Tree.{ValuesTree}
use Rattle.sep_assert.specs.Tree.{AssertionTree}
use Rattle.triple_kernel.specs.Tree.{FactTree, TripleTree, WordIs, MemIs, So, Gives}
use Rattle.held_terms.specs.Subterms.{HasTree}

-- a term's subterms: children first, from left to right, and the term itself last
abbrev pub subterms : Tree → List Tree
subterms (OfWord t) = word_subterms t
subterms (OfMem m) = mem_subterms m
subterms (OfCond c) = cond_subterms c

-- the terms of values, of a fact, of an assertion, in the order in which they are written
abbrev pub values_terms : ValuesTree → List Tree
values_terms v = map OfWord v.words ++ map OfMem v.mems

abbrev pub fact_terms : FactTree → List Tree
fact_terms (WordIs a b) = OfWord a ∷ OfWord b ∷ []
fact_terms (MemIs a b) = OfMem a ∷ OfMem b ∷ []
fact_terms (So c) = OfCond c ∷ []
fact_terms (Gives def exit args results) = values_terms args ++ values_terms results

abbrev pub assertion_terms : AssertionTree → List Tree
assertion_terms a = OfWord a.pc ∷ (map (λ r. OfWord r.1) a.regs ++ map OfMem a.mems)

-- the terms were put in one after the other, each with its subterms, each new one behind those that were there
abbrev pub AreTermsPutIn : List Node → List Tree → List Node → Type 0
AreTermsPutIn before terms after = ArePutIn (trees_of before) (flat_map subterms terms) (trees_of after)

-- the terms of a triple: of its facts, its precondition and its postcondition
abbrev pub triple_terms : TripleTree → List Tree
triple_terms t = flat_map fact_terms t.facts ++ (assertion_terms t.pre ++ assertion_terms t.post)

-- ---- how many nodes they have

-- how many nodes a term has
abbrev pub tree_nodes : Tree → ℕ
tree_nodes (OfWord t) = word_nodes t
tree_nodes (OfMem m) = mem_nodes m
tree_nodes (OfCond c) = cond_nodes c

-- how many nodes the terms of a list have together
abbrev pub nodes_of : List Tree → ℕ
nodes_of [] = 0
nodes_of (t ∷ ts) = tree_nodes t + nodes_of ts

-- ---- the different ones

-- the list has each subterm of the terms
abbrev pub HasSubterms : List Tree → List Tree → Type 0
HasSubterms ts terms = All (λ t. HasTree ts (Some t)) terms

-- the terms of a theorem, if there is one
abbrev pub theorem_terms : Option TripleTree → List Tree
theorem_terms None = []
theorem_terms (Some t) = triple_terms t

-- 4 (T + 1)^2, where T is how many terms a list has
abbrev pub pair_steps : List Tree → ℕ
pair_steps ts = 4 * ((length ts + 1) * (length ts + 1))
