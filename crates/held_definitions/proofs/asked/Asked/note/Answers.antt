use Rattle.std.proofs.Common.{sym}
use Rattle.held_definitions.proofs.AskedLemmas.{found_noted}
use Rattle.held_definitions.proofs.asked.Asked.note.Goals as goal

pub returns : goal.returns
returns c = λ way facts f rest is there found.
    found_noted c.args.self.now.stamps way facts c.args.places.now c.insert.new.self c.args.place (record { fact = c.args.fact; stamp = c.in-Some.stamp.now }) f rest (sym c.in-Some.ensures)
    c.in_ok-insert.ensures.updates.1 c.in_ok-insert.ensures.updates.0 is there found
