use Rattle.std.proofs.Common.{◌++◌, sym, subst, ◌∙◌, ap}
use Rattle.proof_text.specs.Proofs.{IsProofIn}
use Rattle.group_text.specs.Version.{version_of}
use Rattle.path_walk.specs.declared.item.Item.{Item}
use Rattle.decompiler.specs.Listing.{proof_of}
use Rattle.decompiler.proofs.Texts.{each_at, item_text, next_item}
use Rattle.decompiler.proofs.text.put_items.Goals as goal

pub put_item-requires : goal.put_item-requires
put_item-requires c =
    subst (λ (i : Item). IsProofIn (version_of c.args.version) (proof_of i)) (sym c.item-item.is)
    (each_at (IsProofIn (version_of c.args.version)) proof_of c.args.items.now c.loop-item.item-index c.item-item.result c.requires c.loop-item-test.true)

pub loop-item-preserved : goal.loop-item-preserved
loop-item-preserved c =
    next_item (version_of c.args.version) proof_of c.args.items.now c.loop-item.item-index c.item-item.result c.args.out.now c.loop-item.out c.put_item.new.out c.loop-item-test.true c.loop-item.invariant
    (c.in_ok-put_item.ensures ∙ ap (λ (i : Item). c.loop-item.out ++ item_text (version_of c.args.version) (proof_of i)) c.item-item.is)
