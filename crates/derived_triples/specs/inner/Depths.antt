-- Terms that are at most so deep.
use Rattle.std.specs.Prelude.{ℕ}
use Rattle.group_text.specs.TermLimits.{FitsWord, FitsMem, FitsCond}
use Rattle.term_arena.specs.Arena.{Tree, OfWord, OfMem, OfCond}

-- the term is at most that deep, and its numbers fit
abbrev pub FitsTree : ℕ → Tree → Type 0
FitsTree d (OfWord t) = FitsWord d t
FitsTree d (OfMem m) = FitsMem d m
FitsTree d (OfCond c) = FitsCond d c
