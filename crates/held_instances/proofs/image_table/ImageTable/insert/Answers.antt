use Rattle.std.proofs.Common.{◌≡◌, ◌+◌, length, refl, subst, ◌∙◌, rules}
use Rattle.std.specs.Prelude.{if◌then◌else◌, is_some}
use Rattle.held_instances.specs.Image.{Known, image_at}
use Rattle.held_instances.specs.inner.Imaging.{Updates}
use Rattle.held_instances.specs.inner.Slots.{entries_from}
use Rattle.held_instances.proofs.SlotLemmas.{entries_rise, grown_same, grown_slots, put_length, put_slots, put_updates}
use Rattle.held_instances.proofs.image_table.ImageTable.insert.Goals as goal

pub returns-in_err-reach-clause-err : goal.returns-in_err-reach-clause-err
returns-in_err-reach-clause-err c =
    let same = grown_same c.self.inside.turn c.self.inside.slots c.reach.new.slots c.self.invariant c.reach.ensures.grown ∙ c.self.view_is in
    search rules

pub returns-in_err-reach-clause-ordered : goal.returns-in_err-reach-clause-ordered
returns-in_err-reach-clause-ordered c = entries_rise c.self.inside.turn c.reach.new.slots 0

pub invariant_of-self-2 : goal.invariant_of-self-2
invariant_of-self-2 c =
    put_slots c.self.inside.turn c.args.x c.reach.new.slots c.set.new.self _ (grown_slots c.self.inside.turn c.self.inside.slots c.reach.new.slots c.self.invariant c.reach.ensures.grown) refl c.set.ensures

pub returns-clause-updates : goal.returns-clause-updates
returns-clause-updates c =
    subst (λ (known : Known). Updates known (entries_from c.self.inside.turn 0 c.set.new.self) c.args.x c.args.image) c.self.view_is (
    put_updates c.self.inside.turn c.args.x c.self.inside.slots c.reach.new.slots c.set.new.self _ c.self.invariant c.reach.ensures.grown c.in_ok-reach.ensures.there refl c.set.ensures)

pub returns-clause-len : goal.returns-clause-len
returns-clause-len c =
    subst (λ (known : Known). length (entries_from c.self.inside.turn 0 c.set.new.self) ≡ length known + (if is_some (image_at known c.args.x) then 0 else 1)) c.self.view_is (
    put_length c.self.inside.turn c.args.x c.self.inside.slots c.reach.new.slots c.set.new.self _ c.self.invariant c.reach.ensures.grown c.in_ok-reach.ensures.there refl c.set.ensures)

pub returns-clause-ordered : goal.returns-clause-ordered
returns-clause-ordered c = entries_rise c.self.inside.turn c.set.new.self 0
