use Rattle.std.proofs.Common.{◌≡◌, length, map}
use Rattle.mc_text.specs.Reading.{star}
use Rattle.mc_text.specs.inner.Reading.{with_prefix}
use Rattle.mc_text.specs.Scanning.{tokens_at}
use Rattle.proof_text.specs.inner.Subs.{put_tree}
use Rattle.mc_text.specs.Reading.{is_open}
use Rattle.proof_text.specs.inner.LineReading.{sub_at}
use Rattle.mc_text.specs.Outcome.{last_line}
use Rattle.proof_text.proofs.line_subs.read_subs.Given as goal

-- what was read, in front of what is left to read, is what all is read as
abbrev pub invariant-puts : goal.invariant-puts
invariant-puts l = record {
  told : with_prefix (map put_tree l.puts.items) (star is_open sub_at (tokens_at l.scan)) ≡ star is_open sub_at (tokens_at l.fn.scan);
  last : last_line l.scan ≡ last_line l.fn.scan;
}

abbrev pub decreases-puts : goal.decreases-puts
decreases-puts l = length (tokens_at l.scan)
