use Rattle.std.proofs.Common.{◌<◌, ◌≡◌, List, ℕ, [], get_or, length, subst}
use Rattle.decompiler.specs.Listing.{IsItemBy}
use Rattle.decompiler.proofs.InOrder.{items-more}
use Rattle.decompiler.proofs.making.items_of.Goals as goal

pub names-preserved : goal.names-preserved
names-preserved g c file is =
    let form = g.M.MakeItems.form in
    let names : c.as_slice-all.result.now ≡ c.args.names.now = c.as_slice-all.ensures in
    let low : c.names.i < length c.args.names.now = subst (λ (ns : List (List ℕ)). c.names.i < length ns) names c.names-test.true in
    items-more form file c.args.names.now c.names.i low c.names.items (c.names.invariant file is) c.in_ok-item_at.field-0 _
    (subst (λ (ns : List (List ℕ)). IsItemBy form file (get_or ns c.names.i []) c.in_ok-item_at.field-0) names (c.in_ok-item_at.ensures.item file is)) c.in_ok-push.ensures.ok
