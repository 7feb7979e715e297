use Rattle.std.proofs.Common.{◌≡◌, ◌+◌, ◌≤◌, drop, map, take}
use Rattle.word_terms.specs.Tree.{word_tree}
use Rattle.term_arena.specs.Arena.{OfWord, word_of}
use Rattle.held_terms.specs.Terms.{nodes_of}
use Rattle.checker.proofs.trees.words_from.Given as goal

abbrev pub invariant-loop-word : goal.invariant-loop-word
invariant-loop-word g l = record {
  read : map word_tree l.trees ≡ map (word_of l.arena) (take l.word-index l.words);
  few : l.steps + nodes_of (map OfWord (map (word_of l.arena) (drop l.word-index l.words))) ≤ l.fn.steps + nodes_of (map OfWord (map (word_of l.arena) l.words));
}
