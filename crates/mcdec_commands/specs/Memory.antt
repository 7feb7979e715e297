-- The words' ranges of bytes, put into a memory and looked at there, and what is shown at the end.
use Rattle.std.specs.Prelude.{ℕ, ◌+◌, List, [], length, map, Option, fold, slice_get, unwrap_or}
use Rattle.std.specs.List.{range_with_len}
use Rattle.std.specs.Option.{option_map_or}
use Rattle.rv_words.specs.Bytes.{Bytes, bytes_from, over}
use Rattle.rv_words.specs.declared.range.Range.{Range}
use Rattle.mcdec_answers.specs.declared.answer.Shown.{Shown}
use Rattle.mcdec_answers.specs.declared.command.Memory.TheVariants.{First, Second}
use Rattle.mcdec_answers.specs.Command.{Arg, ranges}

-- the ranges' bytes put over those of a memory, one range after the other
abbrev pub placed : List Range → Bytes → Bytes
placed rs m = fold (λ m r. over (bytes_from r.at r.bytes) m) m rs

-- the range with the bytes of a memory there; an absent one counts as 0
abbrev pub held_at : Bytes → Range → Range
held_at m r = record { at = r.at; bytes = map (λ k. unwrap_or (m (r.at + k)) 0) (range_with_len 0 (length r.bytes)) }

-- the ranges with the bytes that a memory has there; none where there is no such memory
abbrev pub ranges_in : Option Bytes → List Range → List Range
ranges_in m rs = option_map_or (λ m. map (held_at m) rs) m []

-- what is shown at the end: these registers and their words, and the words' ranges with the bytes that the memories have there
abbrev pub shown_at : List Arg → (count pc : ℕ) (registers words : List ℕ) (mems : List Bytes) → Shown
shown_at args count pc registers words mems = record {
  count = count;
  pc = pc;
  registers = registers;
  words = words;
  memory = ranges_in (slice_get mems 0) (ranges First args);
  stack = ranges_in (slice_get mems 1) (ranges Second args);
}
