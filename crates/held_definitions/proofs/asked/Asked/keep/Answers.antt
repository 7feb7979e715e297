use Rattle.std.proofs.Common.{refl}
use Rattle.held_definitions.proofs.AskedLemmas.{asked_tried, places_found}
use Rattle.held_definitions.proofs.asked.Asked.keep.Goals as goal

pub returns : goal.returns
returns c = λ d way t is begins found a.
    let old = c.args.self.now in
    asked_tried d way c.args.number c.args.places old _ c.insert.result c.insert.ensures.updates c.insert.ensures.err refl refl
    (record { t = t; is = is; begins = begins; places = places_found old.stamps way t.facts c.args.places found old refl a.stamps }) a
