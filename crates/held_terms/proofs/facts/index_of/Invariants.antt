use Rattle.std.proofs.Common.{map, take}
use Rattle.std.specs.Vec.{vec_items}
use Rattle.held_terms.specs.inner.Numbers.{AreListed}
use Rattle.held_terms.proofs.facts.index_of.Given as goal

abbrev pub invariant-loop-fact : goal.invariant-loop-fact
invariant-loop-fact l = AreListed (take l.fact-index l.facts) (map vec_items l.index.keys)
