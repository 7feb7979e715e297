use Rattle.std.proofs.Common.{◌≡◌, drop, map}
use Rattle.proof_text.specs.inner.LineReading.{subs_rise}
use Rattle.proof_text.specs.inner.Subs.{put_tree, rise_behind}
use Rattle.proof_text.proofs.line_subs.puts_rise.Given as goal

abbrev pub invariant-loop-put : goal.invariant-loop-put
invariant-loop-put l = rise_behind l.mems l.least (map put_tree (drop l.put-index l.puts)) ≡ subs_rise 0 (map put_tree l.puts)
