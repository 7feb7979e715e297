use Rattle.std.proofs.Common.{refl}
use Rattle.loop_forest.proofs.backward_search.Search.note.Goals as goal
use Rattle.loop_forest.proofs.QueueSearch.{notes_old}

pub returns-else-branch : goal.returns-else-branch
returns-else-branch c = notes_old _ _ c.args.x c.args.place c.args.x refl c.in_ok-add.field-0 c.in_ok-add.ensures.fresh c.if-branch.false _ c.in_ok-add.ensures.added
