use Rattle.std.proofs.Common.{◌≡◌, ◌+◌, ◌++◌, length, map, take}
use Rattle.proof_text.specs.Line.{word_put_in}
use Rattle.code_parts.specs.Bodies.{names}
use Rattle.path_walk.specs.inner.Acts.{numbered}
use Rattle.code_parts.specs.VariableMaps.{place_of}
use Rattle.path_walk.proofs.subs.add_registers.Given as goal

abbrev pub invariant-loop-r : goal.invariant-loop-r
invariant-loop-r l = record {
  count : length l.words ≡ length l.fn.words + l.r-index;
  words : map word_put_in l.words ≡ map word_put_in l.fn.words ++ numbered (length l.fn.words) (map (names (place_of l.place) 0).word (take l.r-index l.regs));
}
