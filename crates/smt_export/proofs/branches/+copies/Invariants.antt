use Rattle.std.proofs.Common.{◌≡◌, take, map}
use Rattle.smt_terms.specs.Views.{expr}
use Rattle.smt_export.proofs.branches.+copies.Given as goal

abbrev pub invariant-copy_trees-loop-item : goal.invariant-copy_trees-loop-item
invariant-copy_trees-loop-item l = map expr l.copies ≡ map expr (take l.item-index l.items)
