use Rattle.std.proofs.Common.{ℕ, List, sym, ap, ◌∙◌, arith}
use Rattle.smt_terms.specs.declared.sort.Sort.{Sort}
use Rattle.smt_terms.proofs.Scopes.{bound_to_more}
use Rattle.smt_terms.proofs.scope.scope_of.Goals as goal

pub loop-i-preserved : goal.loop-i-preserved
loop-i-preserved c =
    bound_to_more c.args.params.now c.args.args.now c.loop-i.i c.loop-i.scope _ c.index-params-i.result c.index-args-i.result _ (omega arith) (omega arith) c.index-params-i.is c.index-args-i.is
    (c.as_slice-name.ensures ∙ ap (λ (p : List ℕ × Sort). p.0) (sym c.index-params-i.is)) c.in_ok-datum.ensures.sort c.in_ok-datum.ensures.value c.in_ok-push.ensures.ok c.loop-i.invariant
