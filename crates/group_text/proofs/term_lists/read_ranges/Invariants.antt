use Rattle.std.proofs.Common.{◌≡◌, length}
use Rattle.mc_text.specs.Reading.{star, is_open}
use Rattle.mc_text.specs.inner.Reading.{with_prefix}
use Rattle.mc_text.specs.Scanning.{tokens_at}
use Rattle.group_text.specs.TermReading.{range_at}
use Rattle.mc_text.specs.Outcome.{last_line}
use Rattle.group_text.proofs.term_lists.read_ranges.Given as goal

-- what was read, in front of what is left to read, is what all is read as
abbrev pub invariant-each : goal.invariant-each
invariant-each l = record {
  told : with_prefix l.ranges (star is_open range_at (tokens_at l.scan)) ≡ star is_open range_at (tokens_at l.fn.scan);
  last : last_line l.scan ≡ last_line l.fn.scan;
}

abbrev pub decreases-each : goal.decreases-each
decreases-each l = length (tokens_at l.scan)
