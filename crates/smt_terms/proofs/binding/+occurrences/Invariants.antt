use Rattle.std.proofs.Common.{◌≡◌, drop, map}
use Rattle.smt_terms.specs.Expression.{exprs, occurs_in}
use Rattle.smt_terms.specs.Views.{expr}
use Rattle.smt_terms.proofs.binding.+occurrences.Given as goal

abbrev pub invariant-occurs_in-loop-item : goal.invariant-occurs_in-loop-item
invariant-occurs_in-loop-item l = occurs_in l.name (exprs (map expr (drop l.item-index l.items))) ≡ occurs_in l.name (exprs (map expr l.items))
