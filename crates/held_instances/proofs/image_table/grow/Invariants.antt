use Rattle.std.proofs.Common.{◌≤◌, length}
use Rattle.held_instances.specs.inner.Slots.{IsGrown}
use Rattle.held_instances.proofs.image_table.grow.Given as goal

abbrev pub invariant-loop : goal.invariant-loop
invariant-loop l = record {
  grown : IsGrown l.fn.slots l.slots;
  far : l.counter ≤ length l.slots;
}
