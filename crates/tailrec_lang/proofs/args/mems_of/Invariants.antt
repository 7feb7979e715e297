use Rattle.std.proofs.Common.{◌≡◌, map, take}
use Rattle.std.specs.FinMap.{get}
use Rattle.word_terms.specs.Environment.{environment_of}
use Rattle.word_terms.specs.Tree.{mem_tree}
use Rattle.word_terms.specs.Value.{mem_value}
use Rattle.tailrec_lang.proofs.args.mems_of.Given as goal

abbrev pub invariant-loop-t : goal.invariant-loop-t
invariant-loop-t l = map get l.list ≡ map (λ t. mem_value t (environment_of l.env)) (map mem_tree (take l.t-index l.terms))
