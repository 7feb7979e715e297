use Rattle.std.specs.Vec.{vec_items}
use Rattle.held_terms.proofs.WayLemmas.{has_place}
use Rattle.held_terms.proofs.way.insert_place.Goals as goal

pub returns-clause-ok : goal.returns-clause-ok
returns-clause-ok c = has_place (λ v. vec_items v) c.args.numbers c.args.place c.args.index.now.entries c.insert.new.self.entries c.in_ok-insert.ensures.entries
