use Rattle.term_arena.proofs.PlaceLemmas.{placed_more, placed_set}
use Rattle.term_arena.proofs.leaves.note_at.Goals as goal

pub returns-then-i-places : goal.returns-then-i-places
returns-then-i-places c = λ of ns p is. placed_set of ns c.args.places.now c.args.i c.args.link p c.if-i-places.true is

pub returns-else-i-places : goal.returns-else-i-places
returns-else-i-places c = λ of ns p is. placed_more of ns (of c.args.i) c.args.places.now p
