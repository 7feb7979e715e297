use Rattle.std.proofs.Common.{false, refl}
use Rattle.held_consequence.proofs.PlaceLemmas.{answer_there}
use Rattle.held_consequence.proofs.table.answer_at.Goals as goal

pub returns : goal.returns
returns c = λ k e. answer_there c.args.entries.now c.args.place (0, 0, false) _ k refl e
