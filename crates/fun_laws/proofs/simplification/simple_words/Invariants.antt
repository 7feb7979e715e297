use Rattle.std.proofs.Common.{◌≡◌, ◌++◌, drop, length, map}
use Rattle.word_terms.specs.Tree.{word_tree}
use Rattle.fun_laws.specs.inner.Simplified.{ArePassed, AreSimpleWords, word_parts}
use Rattle.fun_laws.proofs.simplification.simple_words.Given as goal

abbrev pub invariant-loop-t : goal.invariant-loop-t
invariant-loop-t l =
    ArePassed word_parts l.t-index l.fn.log l.log (map word_tree l.words) (map word_tree l.made ++ map word_tree (drop l.t-index l.words))
    × AreSimpleWords (map word_tree l.made) × (length l.made ≡ l.t-index)
