use Rattle.std.proofs.Common.{List, ℕ, subst}
use Rattle.std.specs.Vec.{vec_items}
use Rattle.std.proofs.lemmas.Result.{on_ok_weaker}
use Rattle.term_arena.proofs.Places.{at_read}
use Rattle.held_terms.specs.inner.Ways.{HasPlace, found_at}
use Rattle.held_terms.proofs.WayLemmas.{indexed_next, known_not}
use Rattle.held_terms.proofs.way.add_place.Goals as goal

pub returns-clause-ok : goal.returns-clause-ok
returns-clause-ok c =
    on_ok_weaker c.insert_place.result
    (λ h. indexed_next c.args.facts.now c.args.place c.index-facts-place.result (at_read c.args.facts.now c.args.place c.index-facts-place.result c.requires.low c.index-facts-place.is) _ _ c.requires.index
    (known_not _ c.is_known.ensures c.if-is_known.false)
    (subst (λ (k : List ℕ). HasPlace (found_at (λ v. vec_items v) c.args.index.now.entries) (found_at (λ v. vec_items v) c.insert_place.new.index.entries) k c.args.place) c.in_ok-numbers.ensures h))
    c.insert_place.ensures.ok
