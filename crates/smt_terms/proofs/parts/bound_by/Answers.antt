use Rattle.std.proofs.Common.{◌≡◌, List, map, ap, ◌∙◌}
use Rattle.smt_terms.specs.declared.tree.Tree.{Tree}
use Rattle.smt_terms.specs.Expression.{Expr, Node, End, Then, exprs}
use Rattle.smt_terms.specs.Sorts.{binding_sort}
use Rattle.smt_terms.specs.Views.{expr}
use Rattle.smt_terms.proofs.Splitting.{match-weaker, no_pair}
use Rattle.smt_terms.proofs.parts.bound_by.Goals as goal

pub returns-in-None : goal.returns-in-None
returns-in-None c fs s body = (λ j. binding_sort fs s (Then (c.in_ok-items.ensures j) (Then body End))) ∙ no_pair fs s _ body c.in-None.ensures

pub returns-in-Some : goal.returns-in-Some
returns-in-Some c =
    let e : expr c.args.bindings.now ≡ Node (Then (expr c.in-Some.binding.now) End) = c.in_ok-items.ensures ∙ ap (λ (xs : List Tree). Node (exprs (map expr xs))) c.in-Some.ensures in
    match-weaker c.pair_of.result _ _ _ _ (λ f fs s body. (λ j. binding_sort fs s (Then (e j) (Then body End))) ∙ f fs s body) (λ p q. e ∙ ap (λ (x : Expr). Node (Then x End)) q) c.pair_of.ensures
