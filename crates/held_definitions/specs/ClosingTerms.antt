-- The terms of what theorems have to state by which a definition is closed.
use Rattle.std.specs.Prelude.{◌+◌, List, [], ◌++◌, Option, Some, None, flat_map}
use Rattle.term_arena.specs.Arena.{Tree}
use Rattle.tailrec_lang.specs.Tree.{DefTree, GroupTree}
use Rattle.loop_rule.specs.Tree.{LeafTree}
use Rattle.loop_rule.specs.Leaves.{at_entry, leaves_of, parameters}
use Rattle.sep_assert.specs.Tree.{AssertionTree}
use Rattle.held_terms.specs.Terms.{fact_terms, assertion_terms}

-- ---- how many nodes they have

-- the terms of a leaf: the facts of the way there, and what has to hold there
abbrev pub end_terms : LeafTree → List Tree
end_terms l = flat_map fact_terms l.facts ++ assertion_terms l.post

-- the terms of a leaf with those of what holds where the way to it begins
abbrev pub leaf_terms : AssertionTree → LeafTree → List Tree
leaf_terms pre l = assertion_terms pre ++ end_terms l

-- the terms of what the theorems of a definition's leaves have to state, one leaf after the other, if there is the definition
abbrev pub closing_terms : GroupTree → Option DefTree → List Tree
closing_terms g None = []
closing_terms g (Some def) = flat_map (leaf_terms (at_entry g def (parameters g))) (leaves_of g def)
