use Rattle.std.specs.Vec.{vec_items}
use Rattle.held_terms.specs.inner.Ways.{IsIndexed, found_at}
use Rattle.held_terms.proofs.way.add_places.Given as goal

abbrev pub invariant-loop-i : goal.invariant-loop-i
invariant-loop-i l = IsIndexed l.facts l.i (found_at (λ v. vec_items v) l.index.entries)
