use Rattle.std.proofs.Common.{◌≡◌, None, subst}
use Rattle.std.specs.Option.{option_flatten}
use Rattle.held_instances.specs.Image.{Known, image_at}
use Rattle.held_instances.proofs.SlotLemmas.{got, got_none}
use Rattle.held_instances.proofs.image_table.ImageTable.get.Goals as goal

pub returns-in-Some : goal.returns-in-Some
returns-in-Some c =
    subst (λ (known : Known). c.image_of.result ≡ option_flatten (image_at known c.args.x)) c.self.view_is (
    got c.self.inside.turn c.args.x c.self.inside.slots c.in-Some.slot.now c.image_of.result c.in-Some.ensures c.image_of.ensures)

pub returns-in-None : goal.returns-in-None
returns-in-None c = subst (λ (known : Known). None ≡ option_flatten (image_at known c.args.x)) c.self.view_is (got_none c.self.inside.turn c.args.x c.self.inside.slots c.in-None.ensures)
