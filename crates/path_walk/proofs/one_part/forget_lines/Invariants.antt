use Rattle.std.proofs.Common.{◌≡◌, ◌++◌, ◌-◌, map}
use Rattle.proof_text.specs.Line.{line_tree}
use Rattle.path_walk.specs.inner.Lines.{forgets}
use Rattle.path_walk.proofs.one_part.forget_lines.Given as goal

abbrev pub invariant-loop-number : goal.invariant-loop-number
invariant-loop-number l = map line_tree l.lines ≡ map line_tree l.fn.lines ++ forgets l.first (l.number - l.first)
