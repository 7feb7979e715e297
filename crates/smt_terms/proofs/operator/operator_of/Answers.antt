use Rattle.std.proofs.Common.{◌≡◌, get_or, refl, sym, ap, ◌∙◌}
use Rattle.std.specs.Str.{bytes_eq}
use Rattle.smt_terms.specs.declared.operator.Operator.TheVariants.{Ite}
use Rattle.smt_terms.specs.inner.Operators.{operator_name, plain_operators}
use Rattle.smt_terms.proofs.HeadNames.{named_next}
use Rattle.smt_terms.proofs.operator.operator_of.Goals as goal

pub loop-op-preserved : goal.loop-op-preserved
loop-op-preserved c =
    let name : c.name_of.result.now ≡ operator_name (get_or plain_operators c.loop-op.op-index Ite) = c.name_of.ensures in
    record {
      items = refl;
      told = named_next plain_operators c.loop-op.op-index c.args.name.now Ite c.loop-op-test.true (ap (bytes_eq c.args.name.now) (sym name) ∙ sym c.eq.ensures ∙ c.if-eq.false) c.loop-op.invariant.told;
    }
