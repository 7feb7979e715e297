use Rattle.std.proofs.Common.{◌+◌, ◌∙◌, refl, arith}
use Rattle.std.proofs.lemmas.Result.{IfOk-weaker}
use Rattle.tailrec_lang.specs.Tree.{values_tree}
use Rattle.smt_terms.specs.Views.{expr}
use Rattle.smt_export.specs.Bodies.{called}
use Rattle.smt_export.proofs.Lists.{mems_made}
use Rattle.smt_export.proofs.results.+let_mems.Goals as goal

pub returns : goal.returns
returns t c =
    IfOk-weaker c.bound.result _ _
    (λ x is. is
    ∙ mems_made (called c.args.def (values_tree c.args.values.now)) c.args.i c.args.count c.args.m (c.args.i + 1) (c.args.m + 1) (expr c.args.body) _ _ _ _ (omega (arith, c.if-count-eq0.false)) refl refl
    c.in_ok-body.ensures c.in_ok-body-2.ensures (c.as_slice.ensures ∙ c.in_ok-name.ensures) c.in_ok-term.ensures) c.bound.ensures
