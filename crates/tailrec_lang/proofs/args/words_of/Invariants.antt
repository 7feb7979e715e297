use Rattle.std.proofs.Common.{◌≡◌, map, take}
use Rattle.word_terms.specs.Environment.{environment_of}
use Rattle.word_terms.specs.Tree.{word_tree}
use Rattle.word_terms.specs.Value.{word_value}
use Rattle.tailrec_lang.proofs.args.words_of.Given as goal

abbrev pub invariant-loop-t : goal.invariant-loop-t
invariant-loop-t l = l.list ≡ map (λ t. word_value t (environment_of l.env)) (map word_tree (take l.t-index l.terms))
