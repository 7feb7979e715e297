use Rattle.std.proofs.Common.{◌≡◌, ◌++◌, take}
use Rattle.proof_text.specs.Proofs.{line_texts_by}
use Rattle.short_text.specs.ShortSpelling.{table_line}
use Rattle.proof_v2.proofs.texts.put_table.Given as goal

abbrev pub invariant-loop-k : goal.invariant-loop-k
invariant-loop-k g l = l.out ≡ l.initial.out ++ line_texts_by table_line (take l.k l.arena)
