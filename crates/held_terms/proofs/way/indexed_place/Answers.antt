use Rattle.std.proofs.Common.{ap, ◌∙◌}
use Rattle.std.specs.Vec.{vec_items}
use Rattle.std.proofs.lemmas.Option.{none-some}
use Rattle.held_terms.specs.inner.Ways.{found_at}
use Rattle.held_terms.proofs.way.indexed_place.Goals as goal

pub returns-in-None-clause-none : goal.returns-in-None-clause-none
returns-in-None-clause-none c = λ place found there. none-some place (c.in-None.ensures.value ∙ ap (found_at (λ v. vec_items v) c.args.index.now.entries) c.requires.numbers ∙ found)
