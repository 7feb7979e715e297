use Rattle.std.proofs.Common.{ℕ, List, Option, Some, get_or, sym, subst, arith}
use Rattle.smt_terms.specs.declared.sort.Sort.{Sort}
use Rattle.smt_terms.specs.declared.datum.Datum.{Datum}
use Rattle.smt_terms.specs.inner.Taking.{Takes}
use Rattle.smt_terms.proofs.Taking.{taken_more}
use Rattle.smt_terms.proofs.given.taken.Goals as goal

pub loop-i-preserved : goal.loop-i-preserved
loop-i-preserved c =
    let x = c.index-inputs-i.result in
    let there : Takes (get_or c.args.params.now c.loop-i.i c.index-params-i.result).1 x (Some c.in-Some.datum) =
    subst (λ (o : Option Datum). Takes (get_or c.args.params.now c.loop-i.i c.index-params-i.result).1 x o) c.in-Some.is c.in_ok-datum.ensures in
    let takes : Takes c.index-params-i.result.1 x (Some c.in-Some.datum) = subst (λ (p : List ℕ × Sort). Takes p.1 x (Some c.in-Some.datum)) (sym c.index-params-i.is) there in
    taken_more c.args.params.now c.args.inputs.now c.loop-i.i c.index-params-i.result x (omega arith) (omega arith) c.index-params-i.is c.index-inputs-i.is _ _ c.in-Some.datum c.in_ok-push-in-Some.ensures.ok takes c.loop-i.invariant
