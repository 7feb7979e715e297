use Rattle.std.proofs.Common.{◌≡◌, ℕ, ◌+◌, ◌<◌, ◌∙◌, true, List, length, subst, sym, arith}
use Rattle.elf_image.specs.Image.{code_in}
use Rattle.flow_graph.specs.Graph.{IsGraphOf}
use Rattle.code_parts.specs.Causes.{IsCallGraphFault}
use Rattle.code_parts.specs.inner.Finding.{AreMade, IsNoFunction}
use Rattle.code_parts.specs.declared.call_fault.CallGraphFault.{CallGraphFault}
use Rattle.code_parts.specs.declared.linked_function.Function.{Function}
use Rattle.code_parts.proofs.Faults.{first_irregular}
use Rattle.code_parts.proofs.Making.{made_more, made_none}
use Rattle.code_parts.proofs.call_graph.functions_at.Goals as goal

pub functions-init : goal.functions-init
functions-init c = record {
  upto = omega arith;
  made = subst (λ (z : List Function). AreMade (code_in c.args.image.now.pieces) c.args.entries.now c.args.ranks.now z 0) (sym c.new-functions.ensures.items) (made_none (code_in c.args.image.now.pieces) c.args.entries.now c.args.ranks.now);
}

pub returns-in-Err-clause-err : goal.returns-in-Err-clause-err
returns-in-Err-clause-err c = λ e fine ranks.
    let code = code_in c.args.image.now.pieces in
    let below : c.functions.i < length c.args.entries.now = omega (arith, c.len.ensures.len, c.functions-test.true) in
    subst (λ (x : CallGraphFault). IsCallGraphFault code e x) (sym c.refusal.ensures)
    (first_irregular code e c.args.entries.now c.args.ranks.now c.functions.functions.items c.functions.i c.in-Err.why fine ranks c.functions.invariant.made below
    (subst (λ (f : ℕ). IsNoFunction code f c.in-Err.why) c.get.ensures c.in-Err.ensures.err))

pub functions-preserved : goal.functions-preserved
functions-preserved c =
    let code = code_in c.args.image.now.pieces in
    let below : c.functions.i < length c.args.entries.now = omega (arith, c.len.ensures.len, c.functions-test.true) in
    record {
      upto = omega (arith, c.len.ensures.len, c.functions-test.true);
      made = subst (λ (fs : List Function). AreMade code c.args.entries.now c.args.ranks.now fs (c.functions.i + 1)) (sym c.in_ok-add-in-Ok.ensures)
          (made_more code c.args.entries.now c.args.ranks.now c.functions.functions.items c.functions.i c.in-Ok.function c.functions.invariant.made below c.requires
          (c.in-Ok.ensures.entry ∙ c.get.ensures) c.in-Ok.ensures.rank (subst (λ (f : ℕ). IsGraphOf true code f c.in-Ok.function.graph) c.get.ensures c.in-Ok.ensures.graph) c.in-Ok.ensures.forest);
    }

pub returns-clause-ok : goal.returns-clause-ok
returns-clause-ok c =
    let all : c.functions.i ≡ length c.args.entries.now = omega (arith, c.functions.invariant.upto, c.len.ensures.len, c.functions-test.false) in
    subst (λ (n : ℕ). AreMade (code_in c.args.image.now.pieces) c.args.entries.now c.args.ranks.now c.functions.functions.items n) all c.functions.invariant.made
