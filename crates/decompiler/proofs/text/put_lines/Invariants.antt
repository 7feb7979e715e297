use Rattle.std.proofs.Common.{◌≡◌, ◌++◌, map, take}
use Rattle.proof_text.specs.Line.{line_tree}
use Rattle.proof_text.specs.Proofs.{line_texts_in}
use Rattle.group_text.specs.Version.{version_of}
use Rattle.decompiler.proofs.text.put_lines.Given as goal

abbrev pub invariant-loop-line : goal.invariant-loop-line
invariant-loop-line l = l.out ≡ l.initial.out ++ line_texts_in (version_of l.version) l.group.code.ranges (map line_tree (take l.line-index l.lines))
