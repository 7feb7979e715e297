use Rattle.std.proofs.Common.{◌≡◌, List, Some, sym, subst}
use Rattle.std.specs.Prelude.{slice_get}
use Rattle.held_consequence.specs.inner.Table.{Entry, key_of, keys_of}
use Rattle.held_consequence.proofs.PlaceLemmas.{placed_set}
use Rattle.held_consequence.proofs.table.Table.set.Goals as goal

pub invariant_of-self : goal.invariant_of-self
invariant_of-self c =
    placed_set c.self.inside.entries c.set.new.self c.self.inside.places c.args.i c.args.entry
    (subst (λ (l : List Entry). slice_get (keys_of l) c.args.i ≡ Some (key_of c.args.entry)) (sym c.self.view_is) c.requires) c.set.ensures c.self.invariant
