use Rattle.std.proofs.Common.{◌≡◌, map, take}
use Rattle.word_terms.specs.Tree.{word_tree}
use Rattle.smt_terms.specs.Views.{expr}
use Rattle.smt_export.specs.Terms.{word_expr}
use Rattle.smt_export.proofs.values.word_terms.Given as goal

abbrev pub invariant-loop-t : goal.invariant-loop-t
invariant-loop-t l = map expr l.items ≡ map word_expr (map word_tree (take l.t-index l.terms))
