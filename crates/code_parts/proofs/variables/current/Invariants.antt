use Rattle.std.proofs.Common.{◌≡◌, map, take}
use Rattle.word_terms.specs.Tree.{Var, word_tree}
use Rattle.instr_axioms.specs.Variables.{variable_of}
use Rattle.code_parts.proofs.variables.current.Given as goal

abbrev pub invariant-loop-r : goal.invariant-loop-r
invariant-loop-r l = map word_tree l.words ≡ map (λ r. Var (variable_of l.place.names.words r)) (take l.r-index l.r-items)
