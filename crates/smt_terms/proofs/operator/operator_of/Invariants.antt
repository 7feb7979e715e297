use Rattle.std.proofs.Common.{◌≡◌}
use Rattle.smt_terms.specs.inner.Operators.{plain_operators}
use Rattle.smt_terms.proofs.HeadNames.{NamedFrom}
use Rattle.smt_terms.proofs.operator.operator_of.Given as goal

abbrev pub invariant-loop-op : goal.invariant-loop-op
invariant-loop-op l = record {
  items : l.op-items ≡ plain_operators;
  told : NamedFrom plain_operators l.name l.op-index;
}
