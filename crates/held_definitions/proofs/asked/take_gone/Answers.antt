use Rattle.std.proofs.Common.{ℕ, List, subst, sym}
use Rattle.held_definitions.specs.inner.Asked.{IsParted}
use Rattle.held_definitions.proofs.AskedLemmas.{parted_more}
use Rattle.held_definitions.proofs.asked.take_gone.Goals as goal

pub loop-places-preserved-in-Continue-1 : goal.loop-places-preserved-in-Continue-1
loop-places-preserved-in-Continue-1 c =
    subst (λ (gone : List ℕ). IsParted c.args.places.now c.pop_last.new.self gone) (sym c.in_ok-push.ensures.ok)
    (parted_more c.args.places.now c.loop-places.places c.pop_last.new.self c.loop-places.gone c.in-Some.field-0-0 c.in-Some.found c.in-Some.ensures.value c.in-Some.ensures.updates.0 c.loop-places.invariant)
