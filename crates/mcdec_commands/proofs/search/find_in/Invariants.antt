use Rattle.std.proofs.Common.{length}
use Rattle.mcdec_commands.specs.inner.Search.{Searched}
use Rattle.mcdec_commands.proofs.search.find_in.Given as goal

abbrev pub invariant-loop-found : goal.invariant-loop-found
invariant-loop-found l = Searched l.fn.reader l.name l.reader l.count l.found

abbrev pub decreases-loop-found : goal.decreases-loop-found
decreases-loop-found l = length l.reader.progress.rest
