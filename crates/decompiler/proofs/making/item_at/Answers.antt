use Rattle.std.proofs.Common.{ℕ, List, [], refl, sym, subst}
use Rattle.std.proofs.lemmas.List.{get_or_read_under}
use Rattle.decompiler.specs.declared.fault.LinkFault.{LinkFault}
use Rattle.decompiler.specs.Listing.{IsItemBy}
use Rattle.decompiler.specs.Refusals.{IsNoProofBy}
use Rattle.decompiler.specs.inner.Functions.{IsNoItem}
use Rattle.decompiler.proofs.InOrder.{none-listed}
use Rattle.decompiler.proofs.making.item_at.Goals as goal

pub returns-in-Ok-clause-item : goal.returns-in-Ok-clause-item
returns-in-Ok-clause-item g c file is =
    subst (λ (name : List ℕ). IsItemBy g.M.MakeItems.form file name c.in-Ok.item)
    (get_or_read_under c.args.names.now c.args.number _ c.index-names-number.result [] c.index-names-number.is c.requires.number refl) (c.in-Ok.ensures.item file is)

pub returns-in-Err-clause-refused : goal.returns-in-Err-clause-refused
returns-in-Err-clause-refused g c file before is items =
    let form = g.M.MakeItems.form in
    subst (λ (x : LinkFault). IsNoProofBy form file c.args.names.now x) (sym c.refusal.ensures)
    (none-listed form file c.args.names.now c.args.number c.requires.number before items c.in-Err.why
    (subst (λ (name : List ℕ). IsNoItem form file name c.in-Err.why)
    (get_or_read_under c.args.names.now c.args.number _ c.index-names-number.result [] c.index-names-number.is c.requires.number refl) (c.in-Err.ensures.none file is)))
