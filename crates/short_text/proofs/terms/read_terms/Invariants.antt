use Rattle.std.proofs.Common.{◌≡◌, length}
use Rattle.mc_text.specs.Reading.{star}
use Rattle.mc_text.specs.inner.Reading.{with_prefix}
use Rattle.mc_text.specs.Scanning.{tokens_at}
use Rattle.mc_text.specs.Outcome.{last_line}
use Rattle.group_text.specs.inner.Reading.{has_atom}
use Rattle.short_text.specs.inner.ShortReading.{term_at}
use Rattle.short_text.proofs.terms.read_terms.Given as goal

-- what was read, in front of what is left to read, is what all is read as
abbrev pub invariant-each : goal.invariant-each
invariant-each l = record {
  told : with_prefix l.numbers (star has_atom (term_at l.table l.kind) (tokens_at l.scan)) ≡ star has_atom (term_at l.table l.kind) (tokens_at l.fn.scan);
  last : last_line l.scan ≡ last_line l.fn.scan;
}

abbrev pub decreases-each : goal.decreases-each
decreases-each l = length (tokens_at l.scan)
