use Rattle.std.proofs.Common.{ℕ, List, length, subst, sym, ap, ◌∙◌}
use Rattle.elf_image.specs.Image.{code_in}
use Rattle.code_parts.specs.Functions.{AreFunctions}
use Rattle.code_parts.specs.inner.Finding.{AreMade, AreRanks}
use Rattle.code_parts.specs.declared.linked_function.Function.{Function}
use Rattle.code_parts.proofs.Listing.{in_order}
use Rattle.code_parts.proofs.Making.{exit_by}
use Rattle.code_parts.proofs.call_graph.linked_functions.Goals as goal

pub returns-in_err-entries-clause-err : goal.returns-in_err-entries-clause-err
returns-in_err-entries-clause-err c = exit_by c.from_residual.result c.in_err-entries.field-0.0 _ c.from_residual.ensures.1 c.in_err-entries.ensures.err

pub returns-in_err-ranks-clause-err : goal.returns-in_err-ranks-clause-err
returns-in_err-ranks-clause-err c = exit_by c.from_residual-in_err-ranks.result c.in_err-ranks.field-0.0 _ c.from_residual-in_err-ranks.ensures.1 (c.in_err-ranks.ensures.err c.args.entry c.in_ok-entries.ensures.ok)

pub functions_at-requires : goal.functions_at-requires
functions_at-requires c = ap length c.as_slice.ensures ∙ c.in_ok-ranks.ensures.ok.as_many

pub returns-in_err-functions-clause-err : goal.returns-in_err-functions-clause-err
returns-in_err-functions-clause-err c =
    let ranked = subst (λ (rs : List ℕ). AreRanks (code_in c.args.image.now.pieces) c.in_ok-entries.entries rs (length c.in_ok-entries.entries)) (sym c.as_slice.ensures) c.in_ok-ranks.ensures.ok in
    exit_by c.from_residual-in_err-functions.result c.in_err-functions.field-0.0 _ c.from_residual-in_err-functions.ensures.1 (c.in_err-functions.ensures.err c.args.entry c.in_ok-entries.ensures.ok ranked)

pub returns-clause-ok : goal.returns-clause-ok
returns-clause-ok c =
    let code = code_in c.args.image.now.pieces in
    let made = subst (λ (rs : List ℕ). AreMade code c.in_ok-entries.entries rs c.in_ok-functions.functions.items (length c.in_ok-entries.entries)) c.as_slice.ensures c.in_ok-functions.ensures.ok in
    subst (λ (fs : List Function). AreFunctions code c.args.entry fs) (sym c.from_vec.ensures)
    (in_order code c.args.entry c.in_ok-entries.entries c.in_ok-ranks.ranks c.in_ok-functions.functions.items c.sort.new.functions.items c.in_ok-entries.ensures.ok c.in_ok-ranks.ensures.ok made c.sort.ensures.moved c.in_ok-sort.ensures.sorted)
