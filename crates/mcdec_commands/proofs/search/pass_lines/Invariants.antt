use Rattle.std.proofs.Common.{length}
use Rattle.tailrec_lang.specs.Tree.{group_tree}
use Rattle.mcdec_commands.specs.inner.Search.{Passing}
use Rattle.mcdec_commands.proofs.search.pass_lines.Given as goal

abbrev pub invariant-loop : goal.invariant-loop
invariant-loop l = Passing (group_tree l.g) l.fn.reader l.reader

abbrev pub decreases-loop : goal.decreases-loop
decreases-loop l = length l.reader.progress.rest
