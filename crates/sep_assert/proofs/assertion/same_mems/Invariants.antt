use Rattle.std.proofs.Common.{◌≡◌, take, map}
use Rattle.word_terms.specs.Tree.{mem_tree}
use Rattle.sep_assert.proofs.assertion.same_mems.Given as goal

abbrev pub invariant-loop-i : goal.invariant-loop-i
invariant-loop-i l = map mem_tree (take l.i l.a) ≡ map mem_tree (take l.i l.b)
