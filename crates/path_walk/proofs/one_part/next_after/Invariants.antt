use Rattle.std.proofs.Common.{◌≡◌, ◌≤◌, ◌+◌, map, take}
use Rattle.proof_text.specs.Line.{line_tree}
use Rattle.path_walk.specs.inner.Lines.{stated}
use Rattle.path_walk.proofs.one_part.next_after.Given as goal

abbrev pub invariant-loop-line : goal.invariant-loop-line
invariant-loop-line l = (l.next ≡ l.first + stated (map line_tree (take l.line-index l.lines))) × (l.next ≤ l.first + l.line-index)
