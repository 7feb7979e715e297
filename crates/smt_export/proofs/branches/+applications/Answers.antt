use Rattle.std.proofs.Common.{sym, ap, ◌∙◌, arith}
use Rattle.std.proofs.lemmas.Result.{IfOk-weaker}
use Rattle.smt_terms.specs.Views.{expr}
use Rattle.smt_export.specs.Joins.{in_let, in_ite, under_let, under_ite}
use Rattle.smt_export.proofs.Lists.{three_items, four_items}
use Rattle.smt_export.proofs.branches.+applications.Goals as goal

pub in_let-returns-in_ok-inner-in-len3 : goal.in_let-returns-in_ok-inner-in-len3
in_let-returns-in_ok-inner-in-len3 t c =
    IfOk-weaker c.under_let.result _ _
    (λ o is. is ∙ (λ j. under_let (expr c.head-item.result) (expr c.bindings-item.result) (c.in_ok-inner-in-len3.ensures j))
    ∙ sym (ap in_let (three_items c.args.items.now c.head-item.result c.bindings-item.result c.body-item.result (omega (arith, c.in-len3.len_at_least)) (omega (arith, c.in-len3.len_below)) c.head-item.is c.bindings-item.is c.body-item.is)))
    c.under_let.ensures

pub in_ite-returns-in_ok-inner-in-len4 : goal.in_ite-returns-in_ok-inner-in-len4
in_ite-returns-in_ok-inner-in-len4 t c =
    IfOk-weaker c.under_ite.result _ _
    (λ o is. is ∙ (λ j. under_ite (expr c.head-item.result) (expr c.c-item.result) (expr c.y-item.result) (c.in_ok-inner-in-len4.ensures j))
    ∙ sym (ap in_ite (four_items c.args.items.now c.head-item.result c.c-item.result c.x-item.result c.y-item.result (omega (arith, c.in-len4.len_at_least)) (omega (arith, c.in-len4.len_below)) c.head-item.is c.c-item.is
    c.x-item.is c.y-item.is)))
    c.under_ite.ensures
