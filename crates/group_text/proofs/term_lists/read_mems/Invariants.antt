use Rattle.std.proofs.Common.{◌≡◌, length, map}
use Rattle.mc_text.specs.Reading.{star}
use Rattle.mc_text.specs.inner.Reading.{with_prefix}
use Rattle.mc_text.specs.Scanning.{tokens_at}
use Rattle.word_terms.specs.Tree.{mem_tree}
use Rattle.group_text.specs.TermLimits.{depth_limit}
use Rattle.group_text.specs.TermReading.{begins_mem, mem_at}
use Rattle.mc_text.specs.Outcome.{last_line}
use Rattle.group_text.proofs.term_lists.read_mems.Given as goal

-- what was read, in front of what is left to read, is what all is read as
abbrev pub invariant-mems : goal.invariant-mems
invariant-mems l = record {
  told : with_prefix (map mem_tree l.mems) (star begins_mem (mem_at depth_limit) (tokens_at l.scan)) ≡ star begins_mem (mem_at depth_limit) (tokens_at l.fn.scan);
  last : last_line l.scan ≡ last_line l.fn.scan;
}

abbrev pub decreases-mems : goal.decreases-mems
decreases-mems l = length (tokens_at l.scan)
