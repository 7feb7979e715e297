-- What a list of words becomes once drawn code is written.
use Rattle.std.specs.Prelude.{ℕ, List, ◌++◌, map}
use Rattle.rv_decode.specs.Encodes.{word_of}
use Rattle.code_gen.specs.Pieces.{Drawn, Drawing, Repeats, beginning, drawn}
use Rattle.code_gen.specs.Program.{code}

-- the words, and behind them those of drawn code at depth d
abbrev pub with_drawn : List ℕ → ℕ → Drawn → List ℕ
with_drawn words d x = words ++ map word_of (code d x.pieces)

-- a loop, and what comes after
abbrev pub drawn_loop : Drawing
drawn_loop u d s = beginning drawn Repeats u d s
