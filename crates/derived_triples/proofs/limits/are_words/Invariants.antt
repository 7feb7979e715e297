use Rattle.std.proofs.Common.{map, take}
use Rattle.std.specs.List.{AllByRecursion}
use Rattle.term_arena.specs.Arena.{word_of}
use Rattle.group_text.specs.TermLimits.{IsWord}
use Rattle.derived_triples.proofs.limits.are_words.Given as goal

abbrev pub invariant-loop-k : goal.invariant-loop-k
invariant-loop-k l = AllByRecursion IsWord (map (word_of l.arena) (take l.k-index l.words))
