use Rattle.std.proofs.Common.{◌+◌, ◌≤◌, drop, map, take}
use Rattle.term_arena.specs.Arena.{Extends, OfWord}
use Rattle.word_terms.specs.Tree.{word_tree}
use Rattle.held_terms.specs.Terms.{AreTermsPutIn, nodes_of}
use Rattle.held_terms.specs.inner.Put.{AreWordsPut}
use Rattle.held_terms.proofs.put.put_words.Given as goal

abbrev pub invariant-loop-word : goal.invariant-loop-word
invariant-loop-word g l = record {
  grows : Extends l.fn.arena l.arena;
  put : AreWordsPut l.arena l.numbers (map word_tree (take l.word-index l.words));
  order : AreTermsPutIn l.fn.arena (map OfWord (map word_tree (take l.word-index l.words))) l.arena;
  few : l.steps + nodes_of (map OfWord (map word_tree (drop l.word-index l.words))) ≤ l.fn.steps + nodes_of (map OfWord (map word_tree l.words));
}
