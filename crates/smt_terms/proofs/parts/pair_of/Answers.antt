use Rattle.std.proofs.Common.{◌∙◌}
use Rattle.smt_terms.specs.Expression.{Node, End, Then}
use Rattle.smt_terms.specs.Sorts.{binding_sort}
use Rattle.smt_terms.proofs.Splitting.{no_two}
use Rattle.smt_terms.proofs.parts.pair_of.Goals as goal

pub returns-in-None : goal.returns-in-None
returns-in-None c fs s body = (λ j. binding_sort fs s (Then (Node (Then (c.in_ok-items.ensures j) End)) (Then body End))) ∙ no_two fs s _ body c.in-None.ensures
