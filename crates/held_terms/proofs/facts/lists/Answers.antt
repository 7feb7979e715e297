use Rattle.std.proofs.Common.{sym, ◌∙◌}
use Rattle.std.specs.Vec.{vec_items}
use Rattle.held_terms.proofs.NumberLemmas.{found_listed}
use Rattle.held_terms.proofs.facts.lists.Goals as goal

pub returns : goal.returns
returns c = let found = found_listed (λ v. vec_items v) c.args.numbers.now c.args.index.now.keys in (λ h. found.0 (sym c.contains.ensures ∙ h), λ k. c.contains.ensures ∙ found.1 k)
