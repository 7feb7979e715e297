use Rattle.std.proofs.Common.{◌≡◌, take, map}
use Rattle.word_terms.specs.Tree.{mem_tree}
use Rattle.word_terms.proofs.copy.copy_mems.Given as goal

abbrev pub invariant-loop-t : goal.invariant-loop-t
invariant-loop-t l = map mem_tree l.copies ≡ map mem_tree (take l.t-index l.mems)
