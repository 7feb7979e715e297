use Rattle.std.proofs.Common.{◌≡◌, ◌++◌, map, take}
use Rattle.word_terms.specs.Tree.{word_tree}
use Rattle.fun_laws.specs.Laws.{OfWord}
use Rattle.fun_laws.specs.inner.Apart.{blank_word}
use Rattle.fun_laws.specs.inner.Taken.{term_of}
use Rattle.fun_laws.proofs.apart.take_words.Given as goal

abbrev pub invariant-loop-t : goal.invariant-loop-t
invariant-loop-t l =
    (map word_tree l.blanks ≡ map blank_word (map word_tree (take l.t-index l.words)))
    × (map term_of l.found ≡ map term_of l.fn.found ++ map OfWord (map word_tree (take l.t-index l.words)))
