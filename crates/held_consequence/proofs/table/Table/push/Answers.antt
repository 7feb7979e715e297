use Rattle.held_consequence.proofs.PlaceLemmas.{placed_push}
use Rattle.held_consequence.proofs.table.Table.push.Goals as goal

pub invariant_of-self-in-Ok : goal.invariant_of-self-in-Ok
invariant_of-self-in-Ok c = placed_push c.self.inside.entries c.push.new.self c.self.inside.places c.insert.new.self c.args.entry c.len-place.result c.len-place.ensures c.in_ok-push.ensures.ok c.in-Ok.ensures.updates.0 c.self.invariant
