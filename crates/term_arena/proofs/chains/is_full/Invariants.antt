use Rattle.std.proofs.Common.{◌≤◌, length}
use Rattle.term_arena.proofs.chains.is_full.Given as goal

abbrev pub invariant-loop : goal.invariant-loop
invariant-loop l = l.link ≤ length l.entries
