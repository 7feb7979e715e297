use Rattle.std.proofs.Common.{map, take}
use Rattle.std.specs.List.{AllByRecursion}
use Rattle.term_arena.specs.Arena.{mem_of}
use Rattle.group_text.specs.TermLimits.{IsMem}
use Rattle.derived_triples.proofs.limits.are_mems.Given as goal

abbrev pub invariant-loop-k : goal.invariant-loop-k
invariant-loop-k l = AllByRecursion IsMem (map (mem_of l.arena) (take l.k-index l.mems))
