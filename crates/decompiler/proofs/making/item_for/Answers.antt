use Rattle.std.proofs.Common.{List, ℕ, Ok, Err, sym, subst}
use Rattle.std.proofs.lemmas.Result.{IfErr-weaker}
use Rattle.rv_words.specs.Bytes.{Bytes}
use Rattle.elf_image.specs.Image.{code_in}
use Rattle.flow_graph.specs.declared.outside.Outside.{Outside as Fault}
use Rattle.code_parts.specs.declared.call_fault.LinkWhy.TheVariants.{Outside}
use Rattle.decompiler.specs.Faults.{IsFirst}
use Rattle.decompiler.specs.Names.{StandsFor}
use Rattle.decompiler.specs.inner.Functions.{IsNoItem, IsRefusedAt}
use Rattle.decompiler.proofs.Fragment.{none-at, none-named}
use Rattle.decompiler.proofs.making.item_for.Goals as goal

pub returns-in_ok-name-in-Ok-clause-none : goal.returns-in_ok-name-in-Ok-clause-none
returns-in_ok-name-in-Ok-clause-none g c file is =
    let form = g.M.MakeItems.form in
    let stands : StandsFor file c.args.name.now (Ok c.in-Ok.entry) =
    subst (λ (name : List ℕ). StandsFor file name (Ok c.in-Ok.entry)) c.as_slice.ensures (subst (StandsFor file c.as_slice.result.now) c.in-Ok.is (c.address_of.ensures file is)) in
    IfErr-weaker c.function_at.result (IsRefusedAt form (code_in c.args.image.now.pieces) c.in-Ok.entry) (IsNoItem form file c.args.name.now)
    (λ why h. none-at form file c.args.name.now c.in-Ok.entry stands why (subst (λ (m : Bytes). IsRefusedAt form m c.in-Ok.entry why) (c.law_of_image.ensures.code file is) h)) c.function_at.ensures.none

pub returns-in-Err-clause-none : goal.returns-in-Err-clause-none
returns-in-Err-clause-none g c file is =
    let form = g.M.MakeItems.form in
    let stands : StandsFor file c.args.name.now (Err c.in-Err.why) =
    subst (λ (name : List ℕ). StandsFor file name (Err c.in-Err.why)) c.as_slice.ensures (subst (StandsFor file c.as_slice.result.now) c.in-Err.is (c.address_of.ensures file is)) in
    subst (λ (x : Fault). IsFirst form.Causes file c.args.name.now (Outside x)) (sym c.outside_of.ensures) (none-named form file c.args.name.now c.in-Err.why stands)
