use Rattle.std.proofs.Common.{◌≡◌, take, map}
use Rattle.word_terms.specs.Tree.{word_tree}
use Rattle.group_terms.proofs.same.same_words.Given as goal

abbrev pub invariant-loop-i : goal.invariant-loop-i
invariant-loop-i l = map word_tree (take l.i l.a) ≡ map word_tree (take l.i l.b)
