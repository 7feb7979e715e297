use Rattle.std.proofs.Common.{inl, inr, refl, sym, ◌∙◌, true≢false}
use Rattle.elf_image.specs.Image.{code_in}
use Rattle.flow_graph.proofs.BuildLemmas.{none_holds, some_holds}
use Rattle.code_parts.specs.inner.Finding.{IsFound}
use Rattle.code_parts.proofs.ranks.rank.Goals as goal

pub returns-in_default-clause-err : goal.returns-in_default-clause-err
returns-in_default-clause-err c = inl (refl, none_holds c.in_ok-found.field-0 _ c.in_default.is c.in_ok-found.ensures.large)

pub returns-then-found-clause-err : goal.returns-then-found-clause-err
returns-then-found-clause-err c =
    let f = some_holds c.in_ok-found.field-0 (IsFound (code_in c.args.image.now.pieces) c.args.entry) c.in-Some.found c.in-Some.is c.in_ok-found.ensures.found in
    inr (refl, f.called.0 c.if-found.true)

pub returns-clause-ok : goal.returns-clause-ok
returns-clause-ok c =
    let f = some_holds c.in_ok-found.field-0 (IsFound (code_in c.args.image.now.pieces) c.args.entry) c.in-Some.found c.in-Some.is c.in_ok-found.ensures.found in
    record {
      rank = record { functions = c.in-Some.found.functions; reached = f.functions; many = sym c.len.ensures.len };
      once = λ b. true≢false (sym (f.called.1 b) ∙ c.if-found.false);
    }
