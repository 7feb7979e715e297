use Rattle.std.proofs.Common.{◌-◌, drop, length}
use Rattle.held_instances.specs.inner.Listings.{IsIndexOf}
use Rattle.held_instances.proofs.listing.index_of.Given as goal

abbrev pub invariant-loop-behind : goal.invariant-loop-behind
invariant-loop-behind l = IsIndexOf (drop (length l.entries - l.behind) l.entries) l.index
