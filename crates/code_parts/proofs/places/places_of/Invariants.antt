use Rattle.std.proofs.Common.{take}
use Rattle.code_parts.specs.inner.Placing.{ArePlaced}
use Rattle.code_parts.proofs.places.places_of.Given as goal

abbrev pub invariant-loop-function : goal.invariant-loop-function
invariant-loop-function l = ArePlaced (take l.function-index l.functions) l.placed_functions l.callees l.base
