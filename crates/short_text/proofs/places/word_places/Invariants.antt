use Rattle.std.proofs.Common.{◌≡◌, ◌++◌, drop}
use Rattle.short_text.specs.inner.ShortReading.{word_places}
use Rattle.short_text.proofs.places.word_places.Given as goal

-- what was put aside, in front of what is left
abbrev pub invariant-loop-place : goal.invariant-loop-place
invariant-loop-place l = l.words ++ word_places (drop l.place-index l.places) ≡ word_places l.places
