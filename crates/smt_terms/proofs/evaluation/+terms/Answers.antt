use Rattle.std.proofs.Common.{◌≡◌, ◌≤◌, false, List, [], ◌∷◌, ◌++◌, map, refl, sym, subst, ◌∙◌, arith}
use Rattle.std.proofs.lemmas.Result.{IfOk-weaker}
use Rattle.smt_terms.specs.declared.tree.Tree.{Tree}
use Rattle.smt_terms.specs.Expression.{Node, exprs}
use Rattle.smt_terms.specs.Operators.{LetHead, Function}
use Rattle.smt_terms.specs.Meaning.{term_head, no_names, applied, functions_after}
use Rattle.smt_terms.specs.Sorts.{applied_sort, rules_after}
use Rattle.smt_terms.specs.Views.{expr, fun_tree}
use Rattle.smt_terms.specs.declared.datum.Datum.{Datum}
use Rattle.smt_terms.specs.declared.datum.Datum.TheVariants as datum
use Rattle.smt_terms.specs.declared.head.Head.{Head as Found}
use Rattle.smt_terms.specs.declared.scope.Binding.{Binding}
use Rattle.smt_terms.specs.inner.Applied.{Applied}
use Rattle.smt_terms.specs.inner.Datum.{StandsFor, meaning, sorted}
use Rattle.smt_terms.specs.inner.Finding.{weight, weights}
use Rattle.smt_terms.specs.inner.Heads.{IsHead, IsOperator}
use Rattle.smt_terms.specs.inner.Telling.{Tells}
use Rattle.smt_terms.proofs.Telling.{binding_none, binding_some, call_unfit, tells_let, tells_operator, tells_function}
use Rattle.smt_terms.proofs.TermLists.{all_left_more, all_left_done, weights_at}
use Rattle.smt_terms.proofs.evaluation.+terms.Goals as goal

pub binding-returns-in_default-clause-told : goal.binding-returns-in_default-clause-told
binding-returns-in_default-clause-told t c = binding_none _ _ _ _ c.in_default.ensures

pub binding-returns-clause-told : goal.binding-returns-clause-told
binding-returns-clause-told t c =
    let b : Binding = record { name = c.in-Some.parts.name; datum = c.in_ok-datum.datum } in
    binding_some _ _ _ c.in-Some.parts.name.now (expr c.in-Some.parts.term.now) (expr c.in-Some.parts.body.now) b _ c.in_ok-datum.datum c.in_ok-value.value c.in-Some.ensures refl refl
    (c.in_ok-push.ensures.ok ∙ (λ j. c.in_ok-datum.ensures.kept j ++ b ∷ [])) c.in_ok-datum.ensures.told c.in_ok-value.ensures.told

pub call-returns-then-args-len : goal.call-returns-then-args-len
call-returns-then-args-len t c = call_unfit (map fun_tree c.args.before.now) (fun_tree c.args.fun.now) c.args.args.now (datum.Truth false) (λ e. absurd (omega arith))

pub node-returns-in-Let-clause-told : goal.node-returns-in-Let-clause-told
node-returns-in-Let-clause-told t c =
    let head = expr c.in-Some.head.now in
    let items : c.args.items.now ≡ c.in-Some.head.now ∷ c.in-Some.rest.now = c.in-Some.ensures in
    let is : term_head head ≡ LetHead = subst (λ (x : Found). IsHead x (term_head (expr c.in-Some.head.now))) c.in-Let.is c.head_of.ensures in
    IfOk-weaker c.binding.result _ _
    (λ d told. subst (λ (xs : List Tree). Tells (map fun_tree c.args.funs.now) c.args.scope.now (Node (exprs (map expr xs))) d) (sym items) (tells_let _ _ head (exprs (map expr c.in-Some.rest.now)) d is told))
    c.binding.ensures.told

pub node-returns-in_ok-parts-in-Operator-clause-told : goal.node-returns-in_ok-parts-in-Operator-clause-told
node-returns-in_ok-parts-in-Operator-clause-told t c =
    let head = expr c.in-Some.head.now in
    let items : c.args.items.now ≡ c.in-Some.head.now ∷ c.in-Some.rest.now = c.in-Some.ensures in
    let is : IsOperator c.in-Operator.op (term_head head) = subst (λ (x : Found). IsHead x (term_head (expr c.in-Some.head.now))) c.in-Operator.is c.head_of.ensures in
    IfOk-weaker c.apply.result _ _
    (λ d app. subst (λ (xs : List Tree). Tells (map fun_tree c.args.funs.now) c.args.scope.now (Node (exprs (map expr xs))) d) (sym items)
    (tells_operator _ _ head (exprs (map expr c.in-Some.rest.now)) c.in-Operator.op c.in_ok-parts-in-Operator.parts d is c.in_ok-parts-in-Operator.ensures.told
    (subst (λ (ds : List Datum). Applied c.in-Operator.op ds d) c.as_slice.ensures app)))
    c.apply.ensures

pub node-returns-in_ok-args-in-Function-clause-told : goal.node-returns-in_ok-args-in-Function-clause-told
node-returns-in_ok-args-in-Function-clause-told t c =
    let head = expr c.in-Some.head.now in
    let items : c.args.items.now ≡ c.in-Some.head.now ∷ c.in-Some.rest.now = c.in-Some.ensures in
    let is : term_head head ≡ Function c.in-Function.name.now = subst (λ (x : Found). IsHead x (term_head (expr c.in-Some.head.now))) c.in-Function.is c.head_of.ensures in
    let funs = map fun_tree c.args.funs.now in
    IfOk-weaker c.application.result _ _
    (λ d app. subst (λ (xs : List Tree). Tells (map fun_tree c.args.funs.now) c.args.scope.now (Node (exprs (map expr xs))) d) (sym items)
    (tells_function _ _ head (exprs (map expr c.in-Some.rest.now)) c.in-Function.name.now c.in_ok-args-in-Function.args d is c.in_ok-args-in-Function.ensures.told
    (subst (λ (ds : List Datum). StandsFor (applied_sort (rules_after no_names funs) c.in-Function.name.now (map sorted ds)) (applied (functions_after no_names funs) c.in-Function.name.now (map meaning ds)) d) c.as_slice-in-Function.ensures app)))
    c.application.ensures

pub terms-term-requires : goal.terms-term-requires
terms-term-requires t c =
    let light : weight (expr c.tree-item.result) ≤ weights (exprs (map expr c.args.trees.now)) = weights_at c.args.trees.now c.loop-tree.tree-index c.tree-item.result c.loop-tree-test.true c.tree-item.is in
    (omega arith, c.requires)

pub terms-loop-tree-preserved : goal.terms-loop-tree-preserved
terms-loop-tree-preserved t c = record {
  told = all_left_more (map fun_tree c.args.funs.now) c.args.scope.now c.args.trees.now c.loop-tree.tree-index c.loop-tree.values _ c.tree-item.result c.in_ok-datum.datum c.loop-tree-test.true c.tree-item.is c.in_ok-push.ensures.ok
      (subst (λ (s : List Binding). Tells (map fun_tree c.args.funs.now) s (expr c.tree-item.result) c.in_ok-datum.datum) c.loop-tree.invariant.kept c.in_ok-datum.ensures.told) c.loop-tree.invariant.told;
  kept = c.in_ok-datum.ensures.kept ∙ c.loop-tree.invariant.kept;
}

pub terms-returns-clause-told : goal.terms-returns-clause-told
terms-returns-clause-told t c = all_left_done (map fun_tree c.args.funs.now) c.args.scope.now c.args.trees.now c.loop-tree.tree-index c.loop-tree.values c.loop-tree-test.false c.loop-tree.invariant.told
