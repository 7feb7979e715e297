use Rattle.std.proofs.Common.{◌≡◌, drop, map}
use Rattle.sep_assert.specs.Tree.{register_tree}
use Rattle.group_text.specs.inner.Reading.{registers_rise}
use Rattle.proof_text.proofs.line_triples.registers_rise.Given as goal

abbrev pub invariant-loop-register : goal.invariant-loop-register
invariant-loop-register l = registers_rise l.least (map (λ r. r.0) (map register_tree (drop l.register-index l.registers))) ≡ registers_rise 1 (map (λ r. r.0) (map register_tree l.registers))
