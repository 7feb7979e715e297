use Rattle.std.proofs.Common.{◌≡◌, take, map}
use Rattle.word_terms.specs.Tree.{word_tree}
use Rattle.word_terms.proofs.copy.copy_words.Given as goal

abbrev pub invariant-loop-t : goal.invariant-loop-t
invariant-loop-t l = map word_tree l.copies ≡ map word_tree (take l.t-index l.words)
