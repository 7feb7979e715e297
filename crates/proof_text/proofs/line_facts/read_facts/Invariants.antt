use Rattle.std.proofs.Common.{◌≡◌, length, map}
use Rattle.mc_text.specs.Reading.{star}
use Rattle.mc_text.specs.inner.Reading.{with_prefix}
use Rattle.mc_text.specs.Scanning.{tokens_at}
use Rattle.triple_kernel.specs.Tree.{fact_tree}
use Rattle.mc_text.specs.Reading.{is_open}
use Rattle.proof_text.specs.inner.LineReading.{fact_at}
use Rattle.mc_text.specs.Outcome.{last_line}
use Rattle.proof_text.proofs.line_facts.read_facts.Given as goal

-- what was read, in front of what is left to read, is what all is read as
abbrev pub invariant-facts : goal.invariant-facts
invariant-facts l = record {
  told : with_prefix (map fact_tree l.facts) (star is_open fact_at (tokens_at l.scan)) ≡ star is_open fact_at (tokens_at l.fn.scan);
  last : last_line l.scan ≡ last_line l.fn.scan;
}

abbrev pub decreases-facts : goal.decreases-facts
decreases-facts l = length (tokens_at l.scan)
