use Rattle.std.proofs.Common.{◌≡◌, length, map}
use Rattle.mc_text.specs.Reading.{star}
use Rattle.mc_text.specs.inner.Reading.{with_prefix}
use Rattle.mc_text.specs.Scanning.{tokens_at}
use Rattle.sep_assert.specs.Tree.{register_tree}
use Rattle.mc_text.specs.Reading.{is_open}
use Rattle.proof_text.specs.inner.LineReading.{register_at}
use Rattle.mc_text.specs.Outcome.{last_line}
use Rattle.proof_text.proofs.line_triples.read_register_terms.Given as goal

-- what was read, in front of what is left to read, is what all is read as
abbrev pub invariant-regs : goal.invariant-regs
invariant-regs l = record {
  told : with_prefix (map register_tree l.regs) (star is_open register_at (tokens_at l.scan)) ≡ star is_open register_at (tokens_at l.fn.scan);
  last : last_line l.scan ≡ last_line l.fn.scan;
}

abbrev pub decreases-regs : goal.decreases-regs
decreases-regs l = length (tokens_at l.scan)
