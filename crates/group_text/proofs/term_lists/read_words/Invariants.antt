use Rattle.std.proofs.Common.{◌≡◌, length, map}
use Rattle.mc_text.specs.Reading.{star}
use Rattle.mc_text.specs.inner.Reading.{with_prefix}
use Rattle.mc_text.specs.Scanning.{tokens_at}
use Rattle.word_terms.specs.Tree.{word_tree}
use Rattle.group_text.specs.TermLimits.{depth_limit}
use Rattle.group_text.specs.TermReading.{begins_word, word_at}
use Rattle.mc_text.specs.Outcome.{last_line}
use Rattle.group_text.proofs.term_lists.read_words.Given as goal

-- what was read, in front of what is left to read, is what all is read as
abbrev pub invariant-words : goal.invariant-words
invariant-words l = record {
  told : with_prefix (map word_tree l.words) (star begins_word (word_at depth_limit) (tokens_at l.scan)) ≡ star begins_word (word_at depth_limit) (tokens_at l.fn.scan);
  last : last_line l.scan ≡ last_line l.fn.scan;
}

abbrev pub decreases-words : goal.decreases-words
decreases-words l = length (tokens_at l.scan)
