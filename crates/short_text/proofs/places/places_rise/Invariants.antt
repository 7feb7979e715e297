use Rattle.std.proofs.Common.{◌≡◌, drop}
use Rattle.short_text.specs.inner.ShortReading.{places_rise, rise_behind}
use Rattle.short_text.proofs.places.places_rise.Given as goal

abbrev pub invariant-loop-place : goal.invariant-loop-place
invariant-loop-place l = rise_behind l.mems l.least (drop l.place-index l.places) ≡ places_rise 0 l.places
