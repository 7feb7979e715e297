use Rattle.std.proofs.Common.{take, map}
use Rattle.std.specs.List.{AllByRecursion}
use Rattle.word_terms.specs.Tree.{word_tree}
use Rattle.word_terms.specs.Scope.{WordInRange}
use Rattle.group_terms.proofs.range.words_have_range.Given as goal

abbrev pub invariant-loop-t : goal.invariant-loop-t
invariant-loop-t l = AllByRecursion WordInRange (map word_tree (take l.t-index l.words))
