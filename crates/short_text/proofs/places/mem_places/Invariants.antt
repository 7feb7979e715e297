use Rattle.std.proofs.Common.{◌≡◌, ◌++◌, drop}
use Rattle.short_text.specs.inner.ShortReading.{mem_places}
use Rattle.short_text.proofs.places.mem_places.Given as goal

-- what was put aside, in front of what is left
abbrev pub invariant-loop-place : goal.invariant-loop-place
invariant-loop-place l = l.mems ++ mem_places (drop l.place-index l.places) ≡ mem_places l.places
