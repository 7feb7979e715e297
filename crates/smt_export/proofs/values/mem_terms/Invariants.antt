use Rattle.std.proofs.Common.{◌≡◌, map, take}
use Rattle.word_terms.specs.Tree.{mem_tree}
use Rattle.smt_terms.specs.Views.{expr}
use Rattle.smt_export.specs.Bodies.{mem_args}
use Rattle.smt_export.proofs.values.mem_terms.Given as goal

abbrev pub invariant-loop-t : goal.invariant-loop-t
invariant-loop-t l = map expr l.items ≡ mem_args (map mem_tree (take l.t-index l.terms))
