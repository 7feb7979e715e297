use Rattle.std.proofs.Common.{◌≡◌, ◌++◌, map}
use Rattle.std.specs.Vec.Iter.{into_iter_items}
use Rattle.proof_text.specs.Line.{mem_put_in, word_put_in}
use Rattle.proof_text.specs.inner.LineReading.{mems_of, words_of}
use Rattle.proof_text.specs.inner.Subs.{put_tree}
use Rattle.proof_text.proofs.line_subs.sub_of.Given as goal

-- what was put aside, in front of what is left
abbrev pub invariant-loop-put : goal.invariant-loop-put
invariant-loop-put l = record {
  words : map word_put_in l.words ++ words_of (map put_tree (into_iter_items l.put-iterator)) ≡ words_of (map put_tree l.fn.puts.items);
  mems : map mem_put_in l.mems ++ mems_of (map put_tree (into_iter_items l.put-iterator)) ≡ mems_of (map put_tree l.fn.puts.items);
}
