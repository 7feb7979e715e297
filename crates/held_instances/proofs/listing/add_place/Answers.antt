use Rattle.held_instances.proofs.ListingLemmas.{indexed_place}
use Rattle.held_instances.proofs.listing.add_place.Goals as goal

pub returns : goal.returns
returns c = indexed_place _ _ c.args.entries.now c.args.place c.requires.place c.requires.behind c.in_ok-insert.ensures.updates
